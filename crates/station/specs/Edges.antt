-- The edges by number. Assumes nothing.
use Rattle.std.specs.Prelude.{ℕ, cond, ◌==◌, Ok, Err, Result}
use Rattle.bus.specs.declared.refusal.Refusal.{Refusal}
use Rattle.bus.specs.declared.refusal.Refusal.TheVariants.{NoSuchButton}
use Rattle.station.specs.declared.edge.Edge.{Edge}
use Rattle.station.specs.declared.edge.Edge.TheVariants.{Press, Release, LongPress}

-- 0 is a press, 1 a release, 2 a long press; there is no other
abbrev pub numbered_edge : ℕ → Result Edge Refusal
numbered_edge n = cond (n == 0) (Ok Press) (cond (n == 1) (Ok Release) (cond (n == 2) (Ok LongPress) (Err NoSuchButton)))
