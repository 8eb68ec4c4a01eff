use Rattle.std.proofs.Common.{arith, ap, ◌∙◌, take, length}
use Rattle.house.specs.Turns.{copied_in}
use Rattle.benchlog.specs.Items.{shown_item}
use Rattle.benchlog.specs.Bytes.{served_bytes}
use Rattle.benchlog.specs.Benches.{bench_bus}
use Rattle.benchlog.proofs.Served.{item_served}
use Rattle.benchlog.proofs.bench.Bench.write_answer.Goals as goal

pub returns-in-Ok-clause-count : goal.returns-in-Ok-clause-count
returns-in-Ok-clause-count g c =
    let x = bench_bus g.S.Station.seats c.args.self.now in
    let told = c.perform-answer.ensures.turn in
    let new = c.perform-answer.new.buffer in
    let bytes = item_served x (shown_item c.args.item.now) _ c.call.result c.perform-answer.result c.in-Ok.field-0 _ new (omega (arith, c.args.self.now.places)) c.call.ensures c.in-Ok.is told.answer told.buffer in
    c.write_served.ensures.count ∙ ap (λ n. length (served_bytes (take n new))) c.number_sent.ensures ∙ ap length bytes

pub returns-in-Ok-clause-bytes : goal.returns-in-Ok-clause-bytes
returns-in-Ok-clause-bytes g c =
    let x = bench_bus g.S.Station.seats c.args.self.now in
    let told = c.perform-answer.ensures.turn in
    let new = c.perform-answer.new.buffer in
    let old = c.args.buffer.now in
    let bytes = item_served x (shown_item c.args.item.now) _ c.call.result c.perform-answer.result c.in-Ok.field-0 _ new (omega (arith, c.args.self.now.places)) c.call.ensures c.in-Ok.is told.answer told.buffer in
    c.write_served.ensures.bytes ∙ ap (λ n. copied_in (served_bytes (take n new)) old) c.number_sent.ensures ∙ ap (λ t. copied_in t old) bytes
