use Rattle.std.proofs.Common.{◌≡◌, ◌++◌, length, map, take, drop}
use Rattle.timing.specs.Holds.{ticked}
use Rattle.timing.specs.Shown.{held}
use Rattle.interface.specs.Shown.{all_held}
use Rattle.interface.proofs.holds.Holds.tick.Given as goal

-- the holds so far have ticked, and those that follow still have to
abbrev pub invariant-loop-hold : goal.invariant-loop-hold
invariant-loop-hold l =
    record {
      eight : length l.hold-items ≡ 8;
      row : map held (take l.hold-index l.hold-items) ++ map ticked (map held (drop l.hold-index l.hold-items)) ≡ map ticked (all_held l.fn.self);
    }
