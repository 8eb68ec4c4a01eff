-- What a sieve promises beyond a station. Assumes nothing.
use Rattle.std.specs.Prelude.{◌≡◌, Bool, true, false, List}
use Rattle.station.specs.declared.event.Event.{Event}
use Rattle.station.specs.declared.event.Event.TheVariants.{Heard, Second, Pushed}
use Rattle.station.specs.Kinds.{Seat}
use Rattle.station.specs.Seats.{some_hears}

-- what a sieve hands down: a frame that some seat hears, and all that is no frame
abbrev pub passes : Event → List Seat → Bool
passes (Heard f) ss = some_hears f ss
passes Second ss = true
passes (Pushed p) ss = true

-- what is not handed down leaves what stands below the very same value
abbrev pub Undisturbed : {S : Type 0} → Event → List Seat → S → S → Type 0
Undisturbed e ss before after = passes e ss ≡ false → after ≡ before
