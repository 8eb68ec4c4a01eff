use Rattle.groups.specs.Marks.{first_link}
use Rattle.groups.proofs.Searching.{Searching, unfollowed}
use Rattle.groups.proofs.group.Group.new.Given as goal

abbrev pub invariant-loop-member : goal.invariant-loop-member
invariant-loop-member g l = Searching (first_link (g.S.Station.seats l.station)) l.address l.marks l.followed

abbrev pub decreases-loop-member : goal.decreases-loop-member
decreases-loop-member g l = unfollowed l.followed
