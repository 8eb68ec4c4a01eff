use Rattle.std.proofs.Common.{◌≡◌, ◌+◌, ◌^◌, ◌<◌, map, drop}
use Rattle.interface.specs.Channels.{locked_bits}
use Rattle.timing.specs.Shown.{held}
use Rattle.interface.specs.Shown.{all_held}
use Rattle.interface.proofs.holds.Holds.locked_bits.Given as goal

-- the bits so far, and those that follow
abbrev pub invariant-loop-n : goal.invariant-loop-n
invariant-loop-n l =
    record {
      narrow : l.bits < 2 ^ l.n;
      sum : l.bits + locked_bits (2 ^ l.n) (map held (drop l.n l.self.channels)) ≡ locked_bits 1 (all_held l.self);
    }
