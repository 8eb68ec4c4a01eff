use Rattle.relay_laws.proofs.RelayListener.{listeners_are_right}
use Rattle.relay_laws.proofs.relay_listener_laws.Goals as goal

pub returns : goal.returns
returns c = record { listener = listeners_are_right }
