use Rattle.std.proofs.Common.{◌≡◌, ◌-◌}
use Rattle.module.specs.Cells.{memory_cells}
use Rattle.interface.specs.Links.{by_record, in_turn}
use Rattle.interface.specs.Shown.{all_held}
use Rattle.interface.proofs.links.obey_all.Given as goal

-- what is left leads to the same
abbrev pub invariant-loop-k : goal.invariant-loop-k
invariant-loop-k l =
    in_turn (by_record l.channels (memory_cells l.memory) l.frame) l.k (51 - l.k) (all_held l.holds)
    ≡ in_turn (by_record l.channels (memory_cells l.memory) l.frame) 0 51 (all_held l.initial.holds)
