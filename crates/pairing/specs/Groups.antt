-- A group of addresses, and when two houses agree about it. Assumes nothing.
use Rattle.std.specs.Prelude.{◌≡◌, ℕ, ◌^◌, ◌<◌, Bool, List, ◌==◌}
use Rattle.std.specs.List.{AllByRecursion, list_any}
use Rattle.station.specs.Kinds.{Seat}
use Rattle.station.specs.Seats.{first_byte}

-- the address is one of these
abbrev pub within : List ℕ → ℕ → Bool
within group a = list_any (λ b. b == a) group

-- at every place that a call can name, the first seats at the address have the same byte, or none
abbrev pub SameRecord : List Seat → List Seat → ℕ → Type 0
SameRecord ss ts a = (n : ℕ) → n < 2 ^ 64 → first_byte a n ss ≡ first_byte a n ts

-- and so at every address of a group
abbrev pub SameRecords : List Seat → List Seat → List ℕ → Type 0
SameRecords ss ts group = AllByRecursion (SameRecord ss ts) group
