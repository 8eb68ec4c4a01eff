-- What edges are called. Assumes nothing.
use Rattle.std.specs.Prelude.{ℕ, List, codes, Ok, Err, Result}
use Rattle.bus.specs.declared.refusal.Refusal.{Refusal}
use Rattle.station.specs.declared.edge.Edge.{Edge}
use Rattle.station.specs.declared.edge.Edge.TheVariants.{Press, Release, LongPress}

-- the name of an edge, or that a number has none
abbrev pub name_of : Result Edge Refusal → List ℕ
name_of (Ok Press) = codes "press"
name_of (Ok Release) = codes "release"
name_of (Ok LongPress) = codes "long press"
name_of (Err r) = codes "no edge"
