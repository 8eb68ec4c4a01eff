use Rattle.std.proofs.Common.{◌*◌, length, arith, length-append}
use Rattle.bus.proofs.Outboxes.{room_left}
use Rattle.station.specs.SeatsLemmas.{few_sent}
use Rattle.station.proofs.rail.act_in_turn.Goals as goal

pub act-requires-2 : goal.act-requires-2
act-requires-2 g c =
    let xs = g.A.Station.seats c.args.first.now in
    let ys = g.B.Station.seats c.args.second.now in
    room_left (9 * length xs) (9 * length ys) c.act.ensures.sent (few_sent c.args.event xs (g.met.A.Station.stands c.args.first.now).1)
    (omega (arith, c.requires, length-append xs ys))
