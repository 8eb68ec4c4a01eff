-- The law of memory: every byte is what the last passed write to its cell left. Assumes nothing.
use Rattle.std.specs.Prelude.{◌≡◌, ℕ, ◌+◌, ◌-◌, ◌<◌, ◌&&◌, cond, List, [], ◌∷◌, ◌++◌, map, length, Some, None, Option, ◌==◌, nat_le, slice_index}
use Rattle.std.specs.List.{AllByRecursion, AllZip}
use Rattle.bus.specs.declared.frame.Frame.{Frame}
use Rattle.station.specs.Kinds.{Seat}
use Rattle.station.specs.Rules.{cell, payload}
use Rattle.station.specs.Seats.{nth}
use Rattle.house.specs.Answers.{Answer, refused, accepted, counts, cleared, byte}
use Rattle.house.specs.Turns.{Bus, called}
use Rattle.runs.specs.Runs.{Entry, Run, quiet}
use Rattle.runs.specs.Ledgers.{Ledger, new_ledger, memory_of, told}

-- the byte that a frame leaves in a cell of the memory of that size at that address: none if the frame does not write
-- there, and a frame with a byte past the end writes nowhere
abbrev pub left_in : ℕ → ℕ → ℕ → Frame → Option ℕ
left_in own size n f =
    cond (f.address == own && (nat_le (cell f + length (payload f)) size && nat_le (cell f) n)) (nth (n - cell f) (payload f)) None

-- of these frames, none writes the cell
abbrev pub Unwritten : ℕ → ℕ → ℕ → List Frame → Type 0
Unwritten own size n fs = AllByRecursion (λ f. left_in own size n f ≡ None) fs

-- the byte b is what the last of these frames that writes the cell left there, or what was there at first, if none does
pub data LastLeft (own size n : ℕ) (fs : List Frame) (initial b : ℕ) : Type 0 where
  left : (before : List Frame) (f : Frame) (later : List Frame) → fs ≡ before ++ f ∷ later → left_in own size n f ≡ Some b → Unwritten own size n later → LastLeft own size n fs initial b
  kept : Unwritten own size n fs → b ≡ initial → LastLeft own size n fs initial b

-- a seat at the start and now, when these frames have passed
pub record Keeps (passed : List Frame) (start now : Seat) : Type 0 where
  pub kind : now.kind ≡ start.kind
  pub address : now.address ≡ start.address
  pub size : length now.content.cells ≡ start.kind.memory
  pub bytes : (n : ℕ) → n < start.kind.memory → LastLeft start.address start.kind.memory n passed (slice_index start.content.cells n) (slice_index now.content.cells n)

-- the ledger, and the bus as it is at the same moment
pub record Agrees (start : List Seat) (l : Ledger) (x : Bus) : Type 0 where
  pub queue : l.queue ≡ x.pending
  pub memories : l.memories ≡ map memory_of x.seats
  pub seats : AllZip (Keeps l.passed) start x.seats

-- the numbers of an answer can be read off the list of frames sent and the ledger's queue: after the call for the number
-- of pending frames, before it for that of removed ones
abbrev pub NumbersRight : Answer → List Frame → Ledger → Ledger → Type 0
NumbersRight (refused n) sent before after = Unit {0}
NumbersRight accepted sent before after = Unit {0}
NumbersRight (counts s p) sent before after = (s ≡ length sent) × (p ≡ length after.queue)
NumbersRight (cleared n) sent before after = n ≡ length before.queue
NumbersRight (byte b) sent before after = Unit {0}

-- ledger and bus agree at the start and after every entry, and so do the answers
abbrev pub Throughout : List Seat → Ledger → Bus → List Entry → Type 0
Throughout start l x [] = Agrees start l x
Throughout start l x (e ∷ es) = Agrees start l x × NumbersRight e.answer e.sent l (told e l) × Throughout start (told e l) (called e.call x) es

-- so it is in every run that begins with these seats and no frame pending
abbrev pub MemoryLaw : List Seat → Type 0
MemoryLaw ss = (es : List Entry) (y : Bus) → Run (quiet ss) es y → Throughout ss (new_ledger ss) (quiet ss) es
