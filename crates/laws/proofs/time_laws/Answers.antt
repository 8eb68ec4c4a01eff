use Rattle.laws.proofs.Times.{time_ends, channel_time_ends}
use Rattle.laws.proofs.time_laws.Goals as goal

pub returns : goal.returns
returns c =
    record {
      time_ends = time_ends;
      channel_time_ends = channel_time_ends;
    }
