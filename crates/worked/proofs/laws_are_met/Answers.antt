use Rattle.worked.proofs.Worked.{premises_met, much_happens, laws_applied}
use Rattle.worked.proofs.laws_are_met.Goals as goal

pub returns : goal.returns
returns c = record { premises = premises_met; happens = much_happens; applied = laws_applied }
