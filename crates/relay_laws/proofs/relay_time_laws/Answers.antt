use Rattle.relay_laws.proofs.RelayStarts.{times_started}
use Rattle.relay_laws.proofs.RelayTimes.{times_run, channels_stay}
use Rattle.relay_laws.proofs.relay_time_laws.Goals as goal

pub returns : goal.returns
returns c = record { times = times_run; stays = channels_stay; starts = times_started }
