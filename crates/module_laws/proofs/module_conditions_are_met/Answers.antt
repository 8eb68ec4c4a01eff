use Rattle.module_laws.proofs.Examples.{records_fit, asks_or_not, listed_or_not, in_range_or_not, state_bytes_or_not}
use Rattle.module_laws.proofs.module_conditions_are_met.Goals as goal

pub returns : goal.returns
returns c = record { records = records_fit; asks = asks_or_not; listed = listed_or_not; range = in_range_or_not; state_bytes = state_bytes_or_not }
