use Rattle.std.proofs.Common.{◌≡◌, ◌<◌, length, take, drop}
use Rattle.groups.proofs.Below.{below}
use Rattle.groups.proofs.group.Group.list.Given as goal

-- the members so far stand at the front
abbrev pub invariant-loop-address : goal.invariant-loop-address
invariant-loop-address l =
    record {
      few : l.count < l.address;
      size : length l.buffer ≡ length l.initial.buffer;
      front : take l.count l.buffer ≡ below l.self.marks l.address;
      rest : drop l.count l.buffer ≡ drop l.count l.initial.buffer;
    }
