use Rattle.std.proofs.Common.{arith}
use Rattle.bus.proofs.Outboxes.{room_left}
use Rattle.module.proofs.Sent.{one_at_most, memory_sends_one}
use Rattle.interface.specs.States.{cells_of}
use Rattle.interface.proofs.interface.Interface.command.Goals as goal

pub answer_clock-requires : goal.answer_clock-requires
answer_clock-requires c =
    room_left 1 1 c.answer_type.ensures (one_at_most _ _)
    (room_left 1 2 c.answer_status.ensures (one_at_most _ _)
    (room_left 1 3 c.obey.ensures.sent (memory_sends_one c.args.own (cells_of c.args.self.now) c.args.frame.now) (omega (arith, c.requires))))
