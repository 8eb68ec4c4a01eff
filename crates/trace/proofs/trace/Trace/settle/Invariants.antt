use Rattle.std.proofs.Common.{◌≡◌}
use Rattle.house.specs.Houses.{bus_of}
use Rattle.trace.specs.Traces.{steps}
use Rattle.trace.proofs.trace.Trace.settle.Given as goal

-- as many steps as turns
abbrev pub invariant-loop : goal.invariant-loop
invariant-loop g l = bus_of g.S.Station.seats l.self.house ≡ steps l.counter (bus_of g.S.Station.seats l.initial.self.house)
