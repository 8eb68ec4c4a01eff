use Rattle.module_laws.proofs.Frames.{commands_are, statuses_are, type_requests_are, links_are, link_statuses_are, hearing, messages_are, cells_are_named, bytes_are_put, bits_are, edges_are, each_frame_has_bytes, well_formed_are}
use Rattle.module_laws.proofs.frame_laws.Goals as goal

pub returns : goal.returns
returns c =
    record {
      commands = commands_are;
      statuses = statuses_are;
      type_requests = type_requests_are;
      bytes = each_frame_has_bytes;
      well_formed = well_formed_are;
      links = links_are;
      link_statuses = link_statuses_are;
      hearing = hearing;
      messages = messages_are;
      cells = cells_are_named;
      put = bytes_are_put;
      bits = bits_are;
      edges = edges_are;
    }
