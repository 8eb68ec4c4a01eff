use Rattle.laws.proofs.LampFrames.{lamps_only_to_links, else_from_own_address}
use Rattle.laws.proofs.lamp_laws.Goals as goal

pub returns : goal.returns
returns c =
    record {
      lamps_only_to_links = lamps_only_to_links;
      else_from_own_address = else_from_own_address;
    }
