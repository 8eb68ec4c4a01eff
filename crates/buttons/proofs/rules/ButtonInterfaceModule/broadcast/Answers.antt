use Rattle.std.proofs.Common.{sym, ap}
use Rattle.bus.proofs.Outboxes.{sends_same}
use Rattle.interface.specs.Interfaces.{clock_sent}
use Rattle.interface.proofs.Decoded.{interface_told}
use Rattle.buttons.proofs.rules.ButtonInterfaceModule.broadcast.Goals as goal

pub returns-clause-sent : goal.returns-clause-sent
returns-clause-sent c = sends_same c.broadcast.ensures.sent (ap (λ x. clock_sent c.args.own x.clock c.args.frame.now) (sym (interface_told c.args.self.now.interface)))
