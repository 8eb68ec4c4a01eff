-- What a clause reads of rows. Assumes nothing.
use Rattle.std.specs.Prelude.{ℕ, List, take}
use Rattle.module.specs.declared.rows.Rows.{Rows}

-- their numbers, in order
abbrev pub row_numbers : {n : ℕ} → Rows n → List ℕ
row_numbers r = take r.count r.numbers
