use Rattle.std.proofs.Common.{arith, ap, sym, ◌∙◌, ◌+◌, drop, length, Ok}
use Rattle.benchlog.specs.Items.{shown_item}
use Rattle.benchlog.specs.Kinds.{kind_of}
use Rattle.benchlog.specs.Reading.{item_from}
use Rattle.benchlog.specs.Readers.{read_as}
use Rattle.benchlog.proofs.Passing.{item_passed}
use Rattle.benchlog.proofs.reading.ReaderIterator.next.Goals as goal

pub returns-in-Ok-clause-steps : goal.returns-in-Ok-clause-steps
returns-in-Ok-clause-steps c =
    let log = c.args.self.now.log.now in
    let n = c.args.self.now.cursor in
    let here = c.in_ok-byte.ensures.lookup.3 in
    let found = ap (λ b. item_from (kind_of b) n (drop (n + 1) log)) (sym (here.1 0)) ∙ sym c.item_at.ensures ∙ ap read_as c.in-Ok.is in
    item_passed log n (Ok (shown_item c.in-Ok.item)) here.0 found

pub returns-in-Ok-clause-goes : goal.returns-in-Ok-clause-goes
returns-in-Ok-clause-goes c =
    let steps = returns-in-Ok-clause-steps c in
    let fewer = ap length steps in
    record { on = λ _. (tt, tt, omega (arith, fewer)); keeps = tt; rests = λ _. tt }
