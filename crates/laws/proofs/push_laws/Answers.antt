use Rattle.laws.proofs.Pushing.{push_moves, push_ignored}
use Rattle.laws.proofs.push_laws.Goals as goal

pub returns : goal.returns
returns c = record { push_moves = push_moves; push_ignored = push_ignored }
