use Rattle.std.proofs.Common.{arith}
use Rattle.groups.specs.Marks.{first_link}
use Rattle.groups.proofs.Searching.{searching_none, searching_more, searching_done, fewer, bytes_linked}
use Rattle.groups.proofs.group.Group.new.Goals as goal

pub loop-member-init : goal.loop-member-init
loop-member-init g c = rw c.from.ensures (searching_none (first_link (g.S.Station.seats c.args.station.now)) c.args.address (omega arith))

pub loop-member-smaller : goal.loop-member-smaller
loop-member-smaller g c =
    let size = c.loop-member.invariant.size in
    rw c.from-in-Some.ensures (fewer c.loop-member.followed c.in-Some.member (omega arith) c.in-Some.ensures.1)

pub loop-member-preserved : goal.loop-member-preserved
loop-member-preserved g c =
    rw c.from-in-Some.ensures
    (searching_more (first_link (g.S.Station.seats c.args.station.now)) c.args.address c.loop-member.marks c.follow.new.marks c.loop-member.followed c.in-Some.member c.follow.array_long c.loop-member.invariant c.in-Some.ensures.0 c.follow.ensures (omega arith))

pub returns : goal.returns
returns g c =
    searching_done (first_link (g.S.Station.seats c.args.station.now)) c.args.address c.loop-member.marks c.loop-member.followed (bytes_linked _ (g.met.S.Station.stands c.args.station.now).1) c.in_default.ensures c.loop-member.invariant
