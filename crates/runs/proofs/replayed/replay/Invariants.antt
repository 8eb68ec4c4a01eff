use Rattle.std.specs.Prelude.{take}
use Rattle.runs.specs.Replays.{Ran}
use Rattle.runs.proofs.replayed.replay.Given as goal

abbrev pub invariant-loop-call : goal.invariant-loop-call
invariant-loop-call g l = Ran g.S.Station.seats l.fn.station (take l.call-index l.fn.calls) l.replay
