use Rattle.std.proofs.Common.{◌≡◌, ◌^◌, ◌++◌, length, map, take, drop}
use Rattle.interface.specs.Channels.{on_named}
use Rattle.timing.specs.Shown.{held}
use Rattle.interface.specs.Shown.{all_held}
use Rattle.interface.proofs.holds.Holds.obey_all_named.Given as goal

-- the holds so far have done what is asked, and those that follow still have to
abbrev pub invariant-loop-n : goal.invariant-loop-n
invariant-loop-n l =
    record {
      eight : length l.hold-items ≡ 8;
      row : map held (take l.n l.hold-items) ++ on_named l.locking l.bits (2 ^ l.n) (map held (drop l.n l.hold-items)) ≡ on_named l.locking l.bits 1 (all_held l.fn.self);
    }
