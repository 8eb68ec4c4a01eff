use Rattle.std.proofs.Common.{◌∙◌, arith, length-set}
use Rattle.groups.specs.Marks.{first_link}
use Rattle.groups.proofs.Searching.{follow_more, follow_left}
use Rattle.groups.proofs.search.follow.Goals as goal

pub loop-other-preserved : goal.loop-other-preserved
loop-other-preserved g c =
    let l = c.loop-other.invariant in
    rw (c.from.ensures, c.touches.ensures)
    record {
      size = length-set _ _ _ ∙ l.size;
      done = follow_more (first_link (g.S.Station.seats c.args.station.now)) c.args.address c.args.marks.now c.loop-other.marks c.loop-other.other (omega arith) l.done l.left;
      left = follow_left c.args.marks.now c.loop-other.marks c.loop-other.other _ l.left;
    }

pub returns-2 : goal.returns-2
returns-2 g c =
    let l = c.loop-other.invariant in
    λ x h.
    rw (c.from.ensures, c.touches.ensures)
    (follow_more (first_link (g.S.Station.seats c.args.station.now)) c.args.address c.args.marks.now c.loop-other.marks c.loop-other.other (omega arith) l.done l.left x (omega arith))
