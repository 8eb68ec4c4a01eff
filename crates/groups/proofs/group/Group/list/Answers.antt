use Rattle.std.proofs.Common.{arith}
use Rattle.groups.proofs.Below.{listed}
use Rattle.groups.proofs.group.Group.list.Goals as goal

pub returns : goal.returns
returns c =
    let l = c.loop-address.invariant in
    (omega arith, listed c.args.self.now.marks c.loop-address.address c.loop-address.count c.args.buffer.now c.loop-address.buffer (omega arith) (omega arith) l.size l.front l.rest)
