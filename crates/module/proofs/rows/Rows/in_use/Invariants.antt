use Rattle.std.proofs.Common.{◌≡◌, ◌-◌, ◌≤◌, min, ◌++◌, length, take}
use Rattle.module.specs.Cells.{memory_cells}
use Rattle.module.specs.Searches.{row_in_use, passing, rows_in_use}
use Rattle.module.proofs.rows.Rows.in_use.Given as goal

-- the numbers so far, and those that follow
abbrev pub invariant-loop-k : goal.invariant-loop-k
invariant-loop-k g l =
    record {
      end : l.k-end ≡ min g.row.N 255;
      few : l.count ≤ l.k;
      full : length l.numbers ≡ g.row.N;
      row : take l.count l.numbers ++ passing (row_in_use (memory_cells l.memory) l.start l.step) l.k (l.k-end - l.k) ≡ rows_in_use (memory_cells l.memory) l.start l.step (min g.row.N 255);
    }
