use Rattle.std.proofs.Common.{replicate}
use Rattle.bus.specs.Outboxes.{Sends}
use Rattle.chime.specs.Chimes.{stroke}
use Rattle.chime.proofs.chime.Chime.strike.Given as goal

-- the strokes so far have been sent
abbrev pub invariant-loop : goal.invariant-loop
invariant-loop l = Sends l.initial.out l.out (replicate l.counter (stroke l.self.tone l.self.address))
