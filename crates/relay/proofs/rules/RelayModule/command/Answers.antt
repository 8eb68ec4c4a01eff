use Rattle.std.proofs.Common.{◌++◌, sym, arith}
use Rattle.bus.proofs.Outboxes.{sends_both, sends_same, room_left}
use Rattle.module.specs.Memories.{memory_sent}
use Rattle.module.proofs.Sent.{memory_sends_one}
use Rattle.relay.specs.Relays.{commanded, named_channels, carried_out, answer, content}
use Rattle.relay.specs.Reports.{made}
use Rattle.relay.proofs.Decoded.{decoded_content}
use Rattle.relay.proofs.rules.RelayModule.command.Goals as goal

pub command-requires : goal.command-requires
command-requires c =
    room_left 1 5 c.obey.ensures.sent (memory_sends_one c.args.own (content c.args.self.now).cells c.args.frame.now) (omega (arith, c.requires))

pub returns-clause-sent : goal.returns-clause-sent
returns-clause-sent c =
    let f = c.args.frame.now in
    let r = content c.args.self.now in
    let told = sym (decoded_content c.args.self.now) in
    sends_same (sends_both c.obey.ensures.sent c.command.ensures.sent)
    (λ i. memory_sent c.args.own r.cells f ++ answer c.args.own f (made (told i)) (carried_out (commanded f) (named_channels f) (told i)))
