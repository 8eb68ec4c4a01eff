-- The number of each refusal, and its words. Assumes nothing.
use Rattle.std.specs.Prelude.{ℕ, List, codes, Some, None, Ok, Err, Option, Result}
use Rattle.bus.specs.declared.refusal.Refusal.{Refusal}
use Rattle.bus.specs.declared.refusal.Refusal.TheVariants.{SeatAddress, AddressTwice, TooManySeats, ShortBuffer, IllFormedFrame, NoSuchSeat, NoSuchButton, NotQuiet, NothingPending, NoRoom, UnknownItem, CutShort}

abbrev pub number : Refusal → ℕ
-- a seat's address is 0 or 255
number SeatAddress = 1
-- two seats share an address
number AddressTwice = 2
-- more than 16 seats
number TooManySeats = 3
-- a buffer with too few places
number ShortBuffer = 4
-- a frame that is not well formed
number IllFormedFrame = 5
-- no seat at that address
number NoSuchSeat = 6
-- no button of that number, or no such edge
number NoSuchButton = 7
-- frames are pending
number NotQuiet = 8
-- no frame is pending
number NothingPending = 9
-- what could be sent might not fit the pending list
number NoRoom = 10
-- a log item of a kind that is not known
number UnknownItem = 11
-- a log item's body is cut short
number CutShort = 12

-- the number by which a result is refused; none where it is not
abbrev pub refusal_number : {A : Type 0} → Result A Refusal → Option ℕ
refusal_number (Ok x) = None
refusal_number (Err r) = Some (number r)

-- the refusal in words
abbrev pub words : Refusal → List ℕ
words SeatAddress = codes "a seat has address 00 or FF"
words AddressTwice = codes "two seats have one address"
words TooManySeats = codes "there are more than 16 seats"
words ShortBuffer = codes "the buffer is too short"
words IllFormedFrame = codes "the frame is not well formed"
words NoSuchSeat = codes "no seat has that address"
words NoSuchButton = codes "there is no such button or edge"
words NotQuiet = codes "frames are still pending: step first"
words NothingPending = codes "no frame is pending"
words NoRoom = codes "what could be sent might not fit"
words UnknownItem = codes "the log item is of no known kind"
words CutShort = codes "the log item is cut short"
