-- The rules that every seat keeps. Assumes nothing.
use Rattle.std.specs.Prelude.{◌≡◌, ℕ, ◌+◌, ◌*◌, ◌<◌, ◌≤◌, true, false, cond, ◌⊎◌, List, [], ◌∷◌, length, ◌==◌, nat_le, slice_set}
use Rattle.std.specs.List.{AllByRecursion}
use Rattle.bus.specs.declared.frame.Frame.{Frame}
use Rattle.bus.specs.Frames.{byte, is_command}
use Rattle.station.specs.declared.event.Event.{Event}
use Rattle.station.specs.declared.event.Event.TheVariants.{Heard, Second, Pushed}
use Rattle.station.specs.Kinds.{Record, Kind, Seat, links, reaches}

-- the cell that a memory command names: data bytes 2 and 3, high byte first
abbrev pub cell : Frame → ℕ
cell f = byte f 1 * 256 + byte f 2

-- the bytes that a frame writes: one by 0xFC, four by 0xCA, else none
abbrev pub payload : Frame → List ℕ
payload f =
    cond (is_command 0xFC 4 f) (byte f 3 ∷ []) (cond (is_command 0xCA 7 f) (byte f 3 ∷ byte f 4 ∷ byte f 5 ∷ byte f 6 ∷ []) [])

-- cells with some bytes put in from a cell on
abbrev pub put : List ℕ → ℕ → List ℕ → List ℕ
put cells at [] = cells
put cells at (b ∷ bs) = put (slice_set cells at b) (at + 1) bs

-- cells after the bytes of a frame were put in, which they are only if every one has a cell
abbrev pub stored : List ℕ → Frame → List ℕ
stored cells f = cond (nat_le (cell f + length (payload f)) (length cells)) (put cells (cell f) (payload f)) cells

-- the cells of a memory after a frame: it must bear the module's address
abbrev pub written : ℕ → List ℕ → Frame → List ℕ
written own cells f = cond (f.address == own) (stored cells f) cells

-- the cells of a memory after an event: only a frame writes
abbrev pub cells_after : ℕ → List ℕ → Event → List ℕ
cells_after own cells (Heard f) = written own cells f
cells_after own cells Second = cells
cells_after own cells (Pushed p) = cells

-- the frame bears the own address or one that is linked
abbrev pub Bears : Kind → ℕ → Record → Frame → Type 0
Bears k own r f = (f.address ≡ own) ⊎ (links k own r f.address ≡ true)

-- the rules at one record. In order: no effect of what does not reach the seat; no more than nine frames an event; no
-- foreign address in them unless it was linked; cells change by writes alone; as many cells as the kind says; 1,024 or
-- fewer
pub record Rules (k : Kind) (own : ℕ) (r : Record) : Type 0 where
  pub unreached : (e : Event) → reaches k own r e ≡ false → ((k.acts own r e).after ≡ r) × ((k.acts own r e).sent ≡ [])
  pub nine : (e : Event) → length (k.acts own r e).sent ≤ 9
  pub bears : (e : Event) → AllByRecursion (Bears k own r) (k.acts own r e).sent
  pub writes : (e : Event) → (k.acts own r e).after.cells ≡ cells_after own r.cells e
  pub sized : length r.cells ≡ k.memory
  pub small : k.memory ≤ 1024

-- the record after a list of events
abbrev pub later : Kind → ℕ → Record → List Event → Record
later k own r [] = r
later k own r (e ∷ es) = later k own (k.acts own r e).after es

-- the rules hold at every record that events lead to
abbrev pub Lawful : Seat → Type 0
Lawful s = (es : List Event) → Rules s.kind s.address (later s.kind s.address s.content es)

-- a seat of a station: its address is a byte, and it keeps the rules
abbrev pub Sound : Seat → Type 0
Sound s = (s.address < 256) × Lawful s

-- what every station is: one seat or more, each sound
abbrev pub Stands : List Seat → Type 0
Stands ss = (0 < length ss) × AllByRecursion Sound ss
