-- What commands on the memory do to the cells of any module, and what they answer. Assumes nothing.
use Rattle.std.specs.Prelude.{◌≡◌, ℕ, ◌+◌, ◌*◌, ◌<◌, ◌≤◌, ◌⊎◌, true, false, List, [], ◌∷◌, length, slice_index}
use Rattle.bus.specs.declared.frame.Frame.{Frame}
use Rattle.bus.specs.Frames.{is_command, message}
use Rattle.station.specs.declared.event.Event.{Event}
use Rattle.station.specs.declared.event.Event.TheVariants.{Heard, Second, Pushed}
use Rattle.station.specs.Kinds.{Record, Outcome, Kind}
use Rattle.module_laws.specs.AllListed.{is_one_of}

-- the cell that the second and the third byte name, high byte first
abbrev pub named_cell : Frame → ℕ
named_cell f = slice_index f.bytes 1 * 256 + slice_index f.bytes 2

-- the record stays, and nothing is sent
pub record NothingComes (r : Record) (o : Outcome) : Type 0 where
  pub stays : o.after ≡ r
  pub silent : o.sent ≡ []

-- of the command in so many bytes at the own address, where not all of n cells from the named one on lie in the memory,
-- nothing comes
abbrev pub NoneBeyond : ℕ → ℕ → ℕ → (List ℕ → Type 0) → Kind → Type 0
NoneBeyond code count n Such k =
    (own : ℕ) (r : Record) (f : Frame) → f.address ≡ own → is_command code count f ≡ true → Such r.state → length r.cells < named_cell f + n →
    NothingComes r (k.acts own r (Heard f))

-- so it is with FC and FD and one cell, C9 and CA and four
pub record OutOfRange (Such : List ℕ → Type 0) (k : Kind) : Type 0 where
  pub write : NoneBeyond 0xFC 4 1 Such k
  pub read : NoneBeyond 0xFD 3 1 Such k
  pub read_four : NoneBeyond 0xC9 3 4 Such k
  pub write_four : NoneBeyond 0xCA 7 4 Such k

-- of the command in so many bytes at the own address, where n cells from the named one on lie in the memory, this comes
abbrev pub IfWithin : ℕ → ℕ → ℕ → (ℕ → Record → Frame → Outcome → Type 0) → (List ℕ → Type 0) → Kind → Type 0
IfWithin code count n This Such k =
    (own : ℕ) (r : Record) (f : Frame) → f.address ≡ own → is_command code count f ≡ true → Such r.state → named_cell f + n ≤ length r.cells →
    This own r f (k.acts own r (Heard f))

-- n cells from the named one on hold the bytes of the frame from the fourth on; all other cells and the state bytes stay;
-- these frames are sent
pub record BytesWritten (n : ℕ) (r : Record) (f : Frame) (fs : List Frame) (o : Outcome) : Type 0 where
  pub holds : (i : ℕ) → i < n → slice_index o.after.cells (named_cell f + i) ≡ slice_index f.bytes (3 + i)
  pub others : (a : ℕ) → (a < named_cell f) ⊎ (named_cell f + n ≤ a) → slice_index o.after.cells a ≡ slice_index r.cells a
  pub size : length o.after.cells ≡ length r.cells
  pub state : o.after.state ≡ r.state
  pub sent : o.sent ≡ fs

-- the record stays, and these frames are sent
pub record IsAnswered (r : Record) (fs : List Frame) (o : Outcome) : Type 0 where
  pub stays : o.after ≡ r
  pub sent : o.sent ≡ fs

-- a frame with a code, the second and the third byte of another, and these bytes
abbrev pub reply : ℕ → ℕ → Frame → List ℕ → Frame
reply own code f bs = message 3 own (code ∷ slice_index f.bytes 1 ∷ slice_index f.bytes 2 ∷ bs)

-- FC stores one byte and is not answered; CA stores four and is answered by CC with them; FD and C9 are answered by FE with
-- the cell and by CC with four
pub record MemoryObeyed (Such : List ℕ → Type 0) (k : Kind) : Type 0 where
  pub write : IfWithin 0xFC 4 1 (λ own r f o. BytesWritten 1 r f [] o) Such k
  pub write_four :
      IfWithin 0xCA 7 4
      (λ own r f o. BytesWritten 4 r f (reply own 0xCC f (slice_index f.bytes 3 ∷ slice_index f.bytes 4 ∷ slice_index f.bytes 5 ∷ slice_index f.bytes 6 ∷ []) ∷ []) o) Such k
  pub read : IfWithin 0xFD 3 1 (λ own r f o. IsAnswered r (reply own 0xFE f (slice_index r.cells (named_cell f) ∷ []) ∷ []) o) Such k
  pub read_four :
      IfWithin 0xC9 3 4
      (λ own r f o.
      IsAnswered r
      (reply own 0xCC f (slice_index r.cells (named_cell f) ∷ slice_index r.cells (named_cell f + 1) ∷ slice_index r.cells (named_cell f + 2) ∷ slice_index r.cells (named_cell f + 3) ∷ []) ∷ []) o)
      Such k

-- the event is no FC with four bytes and no CA with seven at the own address
abbrev pub WritesNothing : ℕ → Event → Type 0
WritesNothing own (Heard f) = f.address ≡ own → is_one_of (is_command 0xFC 4 ∷ is_command 0xCA 7 ∷ []) f ≡ false
WritesNothing own Second = Unit
WritesNothing own (Pushed p) = Unit

-- such an event leaves every cell
abbrev pub CellsKept : Kind → Type 0
CellsKept k = (own : ℕ) (r : Record) (e : Event) → WritesNothing own e → (k.acts own r e).after.cells ≡ r.cells

-- no event changes how many cells there are
abbrev pub CellCountKept : Kind → Type 0
CellCountKept k = (own : ℕ) (r : Record) (e : Event) → length (k.acts own r e).after.cells ≡ length r.cells
