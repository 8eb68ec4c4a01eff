use Rattle.button_laws.proofs.Examples.{links_act, asks_or_not, sets_or_not}
use Rattle.button_laws.proofs.conditions_are_met.Goals as goal

pub returns : goal.returns
returns c = record { links = links_act; asks = asks_or_not; sets = sets_or_not }
