-- How a table in a memory is searched. Assumes nothing.
use Rattle.std.specs.Prelude.{ℕ, zero, suc, ◌+◌, ◌*◌, Bool, cond, ◌&&◌, List, [], ◌∷◌, Some, None, Option, nat_lt, slice_index}

-- the first number that passes a test, of n numbers from i on
unfoldable pub first : (ℕ → Bool) → ℕ → ℕ → Option ℕ
first test i zero = None
first test i (suc n) = cond (test i) (Some i) (first test (suc i) n)

-- the numbers that pass a test, of n numbers from i on
unfoldable pub passing : (ℕ → Bool) → ℕ → ℕ → List ℕ
passing test i zero = []
passing test i (suc n) = cond (test i) (i ∷ passing test (suc i) n) (passing test (suc i) n)

-- a seat can stand at the address
abbrev pub seatable : ℕ → Bool
seatable a = nat_lt 0 a && nat_lt a 255

-- row k of a table bears such an address: the table begins at a cell, a row has so many cells, the first its address
abbrev pub row_in_use : List ℕ → ℕ → ℕ → ℕ → Bool
row_in_use cells start step k = seatable (slice_index cells (start + step * k))

-- which of the first n rows do
abbrev pub rows_in_use : List ℕ → ℕ → ℕ → ℕ → List ℕ
rows_in_use cells start step n = passing (row_in_use cells start step) 0 n
