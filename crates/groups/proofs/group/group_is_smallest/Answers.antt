use Rattle.groups.proofs.Members.{own, closed, smallest}
use Rattle.groups.proofs.group.group_is_smallest.Goals as goal

pub returns : goal.returns
returns c = record { own = own; closed = closed; smallest = smallest }
