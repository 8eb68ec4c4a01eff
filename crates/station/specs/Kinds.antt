-- What a kind of module and a seat are, and whom a seat hears. Assumes nothing.
use Rattle.std.specs.Prelude.{ℕ, Bool, true, not, ◌&&◌, ◌||◌, List, ◌++◌, ◌==◌, nat_lt}
use Rattle.bus.specs.declared.frame.Frame.{Frame}
use Rattle.bus.specs.Frames.{is_command}
use Rattle.station.specs.declared.event.Event.{Event}
use Rattle.station.specs.declared.event.Event.TheVariants.{Heard, Second, Pushed}

-- what a seat remembers: the cells of its memory, which are read and written by number, then its state bytes
pub record Record : Type 0 where
  pub cells : List ℕ
  pub state : List ℕ

-- the bytes of a record, in the order in which they are asked for
abbrev pub bytes : Record → List ℕ
bytes r = r.cells ++ r.state

-- what comes of an event: the record after it, and the frames sent, in order
pub record Outcome : Type 0 where
  pub after : Record
  pub sent : List Frame

-- a kind of module: all that two modules must have in common to be of one kind. `names own r a`: by its record r, the
-- module at the address own names the address a as linked. `acts own r e`: what comes of the event e
pub record Kind : Type 0 where
  pub memory : ℕ
  pub buttons : ℕ
  pub setup : List ℕ
  pub names : ℕ → Record → ℕ → Bool
  pub acts : ℕ → Record → Event → Outcome

-- kinds are made here and nowhere else
abbrev pub kind_of : ℕ → ℕ → List ℕ → (ℕ → Record → ℕ → Bool) → (ℕ → Record → Event → Outcome) → Kind
kind_of memory buttons setup names acts = record { memory = memory; buttons = buttons; setup = setup; names = names; acts = acts }

-- a module of some kind at an address, with what it remembers
pub record Seat : Type 0 where
  pub kind : Kind
  pub address : ℕ
  pub content : Record

-- an address that can be linked, from 1 to 254 and not the own, and that the record names
abbrev pub linked : (ℕ → Record → ℕ → Bool) → ℕ → Record → ℕ → Bool
linked names own r a = nat_lt 0 a && (nat_lt a 255 && (not (a == own) && names own r a))

-- the seat links the address a
abbrev pub links : Kind → ℕ → Record → ℕ → Bool
links k own r a = linked k.names own r a

-- a button status: command 0 with four bytes
abbrev pub is_status : Frame → Bool
is_status f = is_command 0 4 f

-- a button status from an address that the seat links
abbrev pub from_link : Kind → ℕ → Record → Frame → Bool
from_link k own r f = is_status f && links k own r f.address

-- whom the seat listens to: its own address, address 0, and button statuses of the addresses that it links
abbrev pub hears : Kind → ℕ → Record → Frame → Bool
hears k own r f = f.address == own || (f.address == 0 || (is_status f && links k own r f.address))

-- the event reaches the seat
abbrev pub reaches : Kind → ℕ → Record → Event → Bool
reaches k own r (Heard f) = hears k own r f
reaches k own r Second = true
reaches k own r (Pushed p) = p.address == own

-- what comes of an event at a seat
abbrev pub outcome : Event → Seat → Outcome
outcome e s = s.kind.acts s.address s.content e

-- the seat after an event: kind and address stay
abbrev pub after : Event → Seat → Seat
after e s = record { kind = s.kind; address = s.address; content = (outcome e s).after }

-- the frames that the seat sends on an event
abbrev pub sent : Event → Seat → List Frame
sent e s = (outcome e s).sent
