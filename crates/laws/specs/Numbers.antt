-- What laws read of a frame and of a list of events, in numbers. Assumes nothing.
use Rattle.std.specs.Prelude.{ℕ, suc, ◌+◌, ◌*◌, List, [], ◌∷◌, slice_index}
use Rattle.bus.specs.declared.frame.Frame.{Frame}
use Rattle.station.specs.declared.event.Event.{Event}
use Rattle.station.specs.declared.event.Event.TheVariants.{Heard, Second, Pushed}

-- the time in the third to the fifth byte, high byte first
abbrev pub seconds : Frame → ℕ
seconds f = slice_index f.bytes 2 * 65536 + slice_index f.bytes 3 * 256 + slice_index f.bytes 4

-- how many of the events are seconds
abbrev pub seconds_among : List Event → ℕ
seconds_among [] = 0
seconds_among (Heard f ∷ es) = seconds_among es
seconds_among (Second ∷ es) = suc (seconds_among es)
seconds_among (Pushed p ∷ es) = seconds_among es
