-- What happened in a house: runs of calls, noted as entries. Assumes nothing.
use Rattle.std.specs.Prelude.{◌≡◌, Bool, true, false, List, [], ◌∷◌}
use Rattle.bus.specs.declared.frame.Frame.{Frame}
use Rattle.station.specs.Kinds.{Seat}
use Rattle.house.specs.declared.call.Call.{Call}
use Rattle.house.specs.Answers.{Answer, refused, accepted, counts, cleared, byte}
use Rattle.house.specs.Turns.{Bus, called, turn}

-- what is noted of a call: the call, its answer, and the frames that were sent
pub record Entry : Type 0 where
  pub call : Call
  pub answer : Answer
  pub sent : List Frame

-- the entry of a call on a bus
abbrev pub entry : Bus → Call → Entry
entry x c = record { call = c; answer = (turn x.seats x.pending c).answer; sent = (turn x.seats x.pending c).sent }

-- a run: the calls of the entries, one after the other, lead from the first bus to the last, and each gives its entry
abbrev pub Run : Bus → List Entry → Bus → Type 0
Run x [] y = y ≡ x
Run x (e ∷ es) y = (e ≡ entry x e.call) × Run (called e.call x) es y

-- the seats with no frame pending
abbrev pub quiet : List Seat → Bus
quiet ss = record { seats = ss; pending = [] }

-- no number refused the call
abbrev pub is_served : Answer → Bool
is_served (refused n) = false
is_served accepted = true
is_served (counts s p) = true
is_served (cleared n) = true
is_served (byte b) = true
