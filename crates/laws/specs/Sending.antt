-- What holds of every frame that a module sends. Assumes nothing.
use Rattle.std.specs.Prelude.{◌≡◌, ℕ, true, []}
use Rattle.std.specs.List.{AllByRecursion}
use Rattle.bus.specs.declared.frame.Frame.{Frame}
use Rattle.bus.specs.Frames.{well_formed}
use Rattle.station.specs.declared.event.Event.{Event}
use Rattle.station.specs.Kinds.{Record, Kind}
use Rattle.station.specs.Rules.{payload}

-- P holds of every frame that a module of the kind sends, whatever its address, its record and the event
abbrev pub SendsOnly : (Frame → Type 0) → Kind → Type 0
SendsOnly P k = (own : ℕ) (r : Record) (e : Event) → AllByRecursion P (k.acts own r e).sent

-- the frame is well formed
abbrev pub WellFormed : Frame → Type 0
WellFormed f = well_formed f ≡ true

-- the frame is no write
abbrev pub NoWrite : Frame → Type 0
NoWrite f = payload f ≡ []
