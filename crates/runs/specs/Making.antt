-- What one call adds to a replay, and the numbers that are read off a call and its answer. Assumes nothing.
use Rattle.std.specs.Prelude.{◌≡◌, ℕ, List, [], ◌∷◌, ◌++◌}
use Rattle.station.specs.Kinds.{Seat}
use Rattle.house.specs.declared.call.Call.{Call}
use Rattle.house.specs.declared.call.Call.TheVariants.{Put, Push, Second, Step, Clear, Record}
use Rattle.house.specs.Answers.{Answer, refused, accepted, counts, cleared, byte}
use Rattle.house.specs.Houses.{bus_of}
use Rattle.house.specs.Turns.{called}
use Rattle.station.specs.declared.station.Station.{Ghosts}
use Rattle.runs.specs.declared.replayed.Replayed.{Replayed}
use Rattle.runs.specs.Runs.{entry}
use Rattle.runs.specs.Replays.{entries_of}

-- how many places the buffer of a call has; a call without one counts as 0
abbrev pub places_of : Call → ℕ
places_of (Put f) = 0
places_of (Push a c e n) = n
places_of (Second n) = n
places_of (Step n) = n
places_of Clear = 0
places_of (Record a n) = 0

-- the number of frames sent that an answer tells
abbrev pub sent_number : Answer → ℕ
sent_number (refused n) = 0
sent_number accepted = 0
sent_number (counts s p) = s
sent_number (cleared n) = 0
sent_number (byte b) = 0

module _ {S : Type 0} {G : Ghosts S} where
  -- one call more was made: its entry comes last
  pub record Made (seats_of : S → List Seat) (c : Call) (before after : Replayed S G) : Type 0 where
    pub entries : entries_of after ≡ entries_of before ++ entry (bus_of seats_of before.house) c ∷ []
    pub house : bus_of seats_of after.house ≡ called c (bus_of seats_of before.house)
