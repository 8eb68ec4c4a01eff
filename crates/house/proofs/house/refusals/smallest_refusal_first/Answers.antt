use Rattle.house.proofs.Checking.{numbers_rise, smallest_first}
use Rattle.house.proofs.house.refusals.smallest_refusal_first.Goals as goal

pub returns : goal.returns
returns c = record { rises = numbers_rise; smallest = smallest_first }
