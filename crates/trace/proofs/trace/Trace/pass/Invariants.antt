use Rattle.house.specs.Houses.{bus_of}
use Rattle.trace.specs.Traces.{Passed}
use Rattle.trace.proofs.trace.Trace.pass.Given as goal

-- as many seconds as turns
abbrev pub invariant-loop-n : goal.invariant-loop-n
invariant-loop-n g l = Passed l.n (bus_of g.S.Station.seats l.initial.self.house) (bus_of g.S.Station.seats l.self.house)
