-- What each call of a house answers and leads to, from its seats and its pending frames. Assumes nothing.
use Rattle.std.specs.Prelude.{◌≡◌, ℕ, ◌+◌, ◌-◌, ◌<◌, ◌≤◌, Bool, true, not, ◌||◌, List, [], ◌∷◌, ◌++◌, length, drop, Some, None, Option, ◌==◌, nat_lt}
use Rattle.std.specs.List.{AllByRecursion}
use Rattle.std.specs.Result.{is_err, result_unwrap_or}
use Rattle.bus.specs.declared.frame.Frame.{Frame}
use Rattle.bus.specs.declared.refusal.Refusal.{Refusal}
use Rattle.bus.specs.declared.refusal.Refusal.TheVariants.{ShortBuffer, IllFormedFrame, NoSuchSeat, NoSuchButton, NotQuiet, NothingPending, NoRoom}
use Rattle.bus.specs.Frames.{well_formed}
use Rattle.bus.specs.Refusals.{number}
use Rattle.station.specs.declared.edge.Edge.{Edge}
use Rattle.station.specs.declared.edge.Edge.TheVariants.{Press}
use Rattle.station.specs.declared.event.Event.{Event}
use Rattle.station.specs.declared.event.Event.TheVariants.{Heard, Second as ASecond, Pushed}
use Rattle.station.specs.Edges.{numbered_edge}
use Rattle.station.specs.Kinds.{Seat}
use Rattle.station.specs.Seats.{places, after_all, sent_all, count_at, first_buttons, first_byte}
use Rattle.house.specs.Faults.{Checks, first_refusal, builder}
use Rattle.house.specs.declared.call.Call.{Call}
use Rattle.house.specs.declared.call.Call.TheVariants.{Put, Push, Second, Step, Clear, Record}
use Rattle.house.specs.Answers.{Answer, refused, accepted, counts, cleared, byte}

-- the edge of a number; a push at a number that has none was refused before
abbrev pub edge_of : ℕ → Edge
edge_of n = result_unwrap_or (numbered_edge n) Press

-- what refuses to let the seats act: the builder's faults, then a buffer too short for what they may send
abbrev pub acting : List Seat → ℕ → Checks
acting ss n = builder ss ++ (nat_lt n (places ss), ShortBuffer) ∷ []

-- some frame is pending
abbrev pub busy : List Frame → Bool × Refusal
busy q = (nat_lt 0 (length q), NotQuiet)

-- no such button or edge: the channel is not 1 to the seat's buttons, or the number has no edge
abbrev pub no_button : List Seat → ℕ → ℕ → ℕ → Bool × Refusal
no_button ss address channel edge = ((channel == 0 || nat_lt (first_buttons address ss) channel) || is_err (numbered_edge edge), NoSuchButton)

-- what refuses a call, in order
abbrev pub checks : List Seat → List Frame → Call → Checks
checks ss q (Put f) = builder ss ++ (not (well_formed f), IllFormedFrame) ∷ busy q ∷ []
checks ss q (Push a c e n) = acting ss n ++ (count_at a ss == 0, NoSuchSeat) ∷ no_button ss a c e ∷ busy q ∷ []
checks ss q (Second n) = acting ss n ++ busy q ∷ []
checks ss q (Step n) = acting ss n ++ (length q == 0, NothingPending) ∷ (nat_lt 256 ((length q - 1) + places ss), NoRoom) ∷ []
checks ss q Clear = builder ss
checks ss q (Record a n) = []

-- what comes of a call: its answer, the frames sent, and the seats and the pending frames after it
pub record Turn : Type 0 where
  pub answer : Answer
  pub sent : List Frame
  pub seats : List Seat
  pub pending : List Frame

-- an answer, and nothing else
abbrev pub only : Answer → List Seat → List Frame → Turn
only r ss q = record { answer = r; sent = []; seats = ss; pending = q }

-- the seats act on an event: what they send is appended to the pending frames
abbrev pub acted : Event → List Seat → List Frame → Turn
acted e ss q =
    record { answer = counts (length (sent_all e ss)) (length (q ++ sent_all e ss)); sent = sent_all e ss; seats = after_all e ss; pending = q ++ sent_all e ss }

-- the oldest pending frame is removed, and the seats act on it; with none pending, the call was refused before
abbrev pub stepped : List Seat → List Frame → Turn
stepped ss [] = only (counts 0 0) ss []
stepped ss (f ∷ q) = acted (Heard f) ss q

-- what comes of a call that is not refused
abbrev pub served : List Seat → List Frame → Call → Turn
served ss q (Put f) = only accepted ss (q ++ f ∷ [])
served ss q (Push a c e n) = acted (Pushed (record { address = a; channel = c; edge = edge_of e })) ss q
served ss q (Second n) = acted ASecond ss q
served ss q (Step n) = stepped ss q
served ss q Clear = only (cleared (length q)) ss []
served ss q (Record a n) = only (byte (first_byte a n ss)) ss q

-- a refusal changes nothing
abbrev pub decided : Option Refusal → List Seat → List Frame → Call → Turn
decided None ss q c = served ss q c
decided (Some r) ss q c = only (refused (number r)) ss q

-- what comes of a call
abbrev pub turn : List Seat → List Frame → Call → Turn
turn ss q c = decided (first_refusal (checks ss q c)) ss q c

-- the seats on a bus, and the frames that are pending on it
pub record Bus : Type 0 where
  pub seats : List Seat
  pub pending : List Frame

-- the bus after a call
abbrev pub called : Call → Bus → Bus
called c x = record { seats = (turn x.seats x.pending c).seats; pending = (turn x.seats x.pending c).pending }

-- a buffer after a list was written to its front
abbrev pub copied_in : {A : Type 0} → List A → List A → List A
copied_in xs buffer = xs ++ drop (length xs) buffer

-- a call with so many places in the buffer handed in, where it has one
abbrev pub with_places : ℕ → Call → Call
with_places n (Put f) = Put f
with_places n (Push a c e m) = Push a c e n
with_places n (Second m) = Second n
with_places n (Step m) = Step n
with_places n Clear = Clear
with_places n (Record a m) = Record a m

-- each number is below those after it
abbrev pub Rises : Checks → Type 0
Rises [] = Unit {0}
Rises (c ∷ cs) = AllByRecursion (λ d. number c.1 < number d.1) cs × Rises cs

-- against every call, the numbers are looked at from the smallest up
abbrev pub NumbersRise : Type 0
NumbersRise = (ss : List Seat) (q : List Frame) (c : Call) → Rises (checks ss q c)

-- so of all refusals that apply to a call, the one answered has the smallest number
abbrev pub SmallestFirst : Type 0
SmallestFirst =
    (ss : List Seat) (q : List Frame) (c : Call) (r : Refusal) → first_refusal (checks ss q c) ≡ Some r → AllByRecursion (λ d. d.0 ≡ true → number r ≤ number d.1) (checks ss q c)
