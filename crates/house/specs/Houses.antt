-- What the calls make of a house. Assumes nothing.
use Rattle.std.specs.Prelude.{◌≡◌, List, Option}
use Rattle.std.specs.VecDeque.{deque_items}
use Rattle.bus.specs.declared.frame.Frame.{Frame}
use Rattle.bus.specs.declared.refusal.Refusal.{Refusal}
use Rattle.station.specs.Kinds.{Seat}
use Rattle.station.specs.declared.station.Station.{Ghosts}
use Rattle.house.specs.declared.house.House.{House}
use Rattle.house.specs.declared.call.Call.{Call}
use Rattle.house.specs.Answers.{Answer}
use Rattle.house.specs.Faults.{first_refusal}
use Rattle.house.specs.Turns.{Bus, checks, Turn, turn, copied_in}

module _ {S : Type 0} {G : Ghosts S} where
  -- the station
  abbrev pub station_of : House S G → S
  station_of h = h.built.station

  -- the pending frames, oldest first
  abbrev pub pending_of : House S G → List Frame
  pending_of h = deque_items h.pending

  abbrev pub bus_of : (S → List Seat) → House S G → Bus
  bus_of seats h = record { seats = seats (station_of h); pending = pending_of h }

  -- what comes of a call, over the seats of the house's station
  abbrev pub turn_of : (S → List Seat) → House S G → Call → Turn
  turn_of seats h c = turn (seats (station_of h)) (pending_of h) c

  -- what refuses a call, if anything does
  abbrev pub refusal_of : (S → List Seat) → House S G → Call → Option Refusal
  refusal_of seats h c = first_refusal (checks (seats (station_of h)) (pending_of h) c)

  -- a turn was taken: this is the answer and this the house after it, and the frames sent were written to the buffer
  pub record TakesTurn (seats_of : S → List Seat) (t : Turn) (r : Answer) (after : House S G) (old new : List Frame) : Type 0 where
    pub answer : r ≡ t.answer
    pub seats : seats_of (station_of after) ≡ t.seats
    pub pending : pending_of after ≡ t.pending
    pub buffer : new ≡ copied_in t.sent old
