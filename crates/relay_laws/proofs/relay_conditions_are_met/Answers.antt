use Rattle.relay_laws.proofs.RelayExamples.{pairs_fit, commands_ask, asks_or_not}
use Rattle.relay_laws.proofs.relay_conditions_are_met.Goals as goal

pub returns : goal.returns
returns c = record { pairs = pairs_fit; commands = commands_ask; asks = asks_or_not }
