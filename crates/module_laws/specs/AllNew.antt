-- What a new module remembers, and where it stands in its record. Assumes nothing.
use Rattle.std.specs.Prelude.{◌≡◌, ℕ, ◌+◌, ◌<◌, length, slice_index}
use Rattle.station.specs.Kinds.{Record, Kind, bytes}
use Rattle.kinds.specs.Kinds.{new_seat, EveryRelay, EveryPanel, EveryButtonInterface}

-- m cells, each FF, and n state bytes, each 0
pub record Blank (m n : ℕ) (r : Record) : Type 0 where
  pub cells : length r.cells ≡ m
  pub erased : (i : ℕ) → i < m → slice_index r.cells i ≡ 0xFF
  pub state : length r.state ≡ n
  pub zeros : (i : ℕ) → slice_index r.state i ≡ 0

-- that is what a new module of the kind remembers
abbrev pub BlankWhenNew : ℕ → ℕ → Kind → Type 0
BlankWhenNew cells state_bytes k = (own : ℕ) → Blank cells state_bytes (new_seat k own state_bytes).content

-- 1,024 cells and 16 state bytes in a relay, 256 and 4 in a panel, 1,024 and 32 in a button interface
pub record NewModules : Type 0 where
  pub relay : EveryRelay (BlankWhenNew 1024 16)
  pub panel : EveryPanel (BlankWhenNew 256 4)
  pub buttons : EveryButtonInterface (BlankWhenNew 1024 32)

-- in a record the cells come first, by their numbers, and then the state bytes
pub record InPlace (r : Record) : Type 0 where
  pub cells : (n : ℕ) → n < length r.cells → slice_index (bytes r) n ≡ slice_index r.cells n
  pub state : (n : ℕ) → slice_index (bytes r) (length r.cells + n) ≡ slice_index r.state n
  pub count : length (bytes r) ≡ length r.cells + length r.state

-- in every record
abbrev pub RecordsAreInPlace : Type 0
RecordsAreInPlace = (r : Record) → InPlace r
