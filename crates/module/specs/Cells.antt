-- What a clause reads of a memory. Assumes nothing.
use Rattle.std.specs.Prelude.{ℕ, List}
use Rattle.module.specs.declared.memory.Memory.{Memory}

-- the cells, in order
abbrev pub memory_cells : {n : ℕ} → Memory n → List ℕ
memory_cells m = m.cells
