use Rattle.std.proofs.Common.{◌≡◌, fold, drop}
use Rattle.module.specs.Cells.{memory_cells}
use Rattle.interface.specs.Links.{by_record}
use Rattle.interface.specs.Shown.{all_held}
use Rattle.interface.proofs.links.obey_in_use.Given as goal

-- what is left leads to the same
abbrev pub invariant-loop-k : goal.invariant-loop-k
invariant-loop-k l =
    fold (λ hs k. by_record l.channels (memory_cells l.memory) l.frame k hs) (all_held l.holds) (drop l.k-index l.used)
    ≡ fold (λ hs k. by_record l.channels (memory_cells l.memory) l.frame k hs) (all_held l.initial.holds) l.used
