-- What a clause reads of holds. Assumes nothing.
use Rattle.std.specs.Prelude.{ℕ, List, map}
use Rattle.timing.specs.Shown.{held}
use Rattle.interface.specs.declared.holds.Holds.{Holds}

-- the numbers that the holds are, from channel 1 on
abbrev pub all_held : Holds → List ℕ
all_held x = map held x.channels
