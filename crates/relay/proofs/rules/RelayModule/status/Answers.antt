use Rattle.std.proofs.Common.{◌≡◌, ◌++◌, sym, ap, ◌∙◌, arith}
use Rattle.bus.proofs.Outboxes.{sends_both, sends_none, sends_same, room_left}
use Rattle.relay.specs.Relays.{contacts, pairs, by_pairs, all_bits, state_of, content}
use Rattle.relay.specs.Reports.{made, report, lamps}
use Rattle.relay.specs.Sent.{five_reported}
use Rattle.relay.specs.Shown.{all_shown}
use Rattle.relay.proofs.Decoded.{decoded_content}
use Rattle.relay.proofs.Unasked.{unasked, unasked_unsent}
use Rattle.relay.proofs.rules.RelayModule.status.Goals as goal

pub send_lamps-requires : goal.send_lamps-requires
send_lamps-requires c =
    room_left 5 4 c.report.ensures (five_reported c.args.own c.made-was.result (all_shown c.obey_pairs.new.self)) (omega (arith, c.requires))

pub returns-clause-sent : goal.returns-clause-sent
returns-clause-sent c =
    let own = c.args.own in
    let f = c.args.frame.now in
    let r = content c.args.self.now in
    let told = sym (decoded_content c.args.self.now) in
    let was : c.made-was.result ≡ made (contacts r) = c.made-was.ensures ∙ ap made told in
    let is : all_shown c.obey_pairs.new.self ≡ by_pairs c.args.self.now.setup.timers (pairs r.cells f) (contacts r) =
    c.obey_pairs.ensures ∙ (λ i. by_pairs c.args.self.now.setup.timers (c.pairs-pairs.ensures i) (told i)) in
    let bits : c.all_bits.result ≡ all_bits r.cells (pairs r.cells f) = c.all_bits.ensures ∙ ap (all_bits r.cells) c.pairs-pairs.ensures in
    sends_same (sends_both c.report.ensures c.send_lamps.ensures)
    (λ i. report own (was i) (is i) ++ lamps f.address (was i) ((c.made.ensures ∙ ap made is) i) (bits i))

pub returns-then-frame-eq0-clause-after : goal.returns-then-frame-eq0-clause-after
returns-then-frame-eq0-clause-after c =
    let p = c.args.self.now in
    let r = content p in
    let same : all_shown p.channels ≡ by_pairs p.setup.timers (pairs r.cells c.args.frame.now) (contacts r) =
    sym (decoded_content p) ∙ sym (unasked r.cells c.args.frame.now p.setup.timers (contacts r) c.if-frame-eq0.true) in
    (λ i. record { cells = r.cells; state = state_of (same i) })

pub returns-then-frame-eq0-clause-sent : goal.returns-then-frame-eq0-clause-sent
returns-then-frame-eq0-clause-sent c =
    let p = c.args.self.now in
    let r = content p in
    sends_none _ _ (unasked_unsent c.args.own r.cells c.args.frame.now p.setup.timers (contacts r) c.if-frame-eq0.true)
