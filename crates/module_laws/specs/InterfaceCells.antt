-- Which cells of a button interface say nothing. Assumes nothing.
use Rattle.std.specs.Prelude.{ℕ, ◌≤◌}
use Rattle.station.specs.Kinds.{Kind}
use Rattle.laws.specs.CountingCells.{OtherCellsIgnored}

-- the cells of the link records, H'0100' to H'01FE'
abbrev pub Counts : ℕ → Type 0
Counts a = (0x0100 ≤ a) × (a ≤ 0x01FE)

-- two interfaces whose memories differ in other cells alone link the same addresses and do and send the same after any events
abbrev pub RecordsAloneCount : Kind → Type 0
RecordsAloneCount k = OtherCellsIgnored Counts k
