use Rattle.std.proofs.Common.{◌≡◌, ◌+◌, ◌-◌, leb, true, length, sym, ap, ◌∙◌, arith}
use Rattle.std.proofs.lemmas.Bool.{cond-true, le-leb}
use Rattle.station.specs.Rules.{put}
use Rattle.station.proofs.Puts.{put_mid-put}
use Rattle.chime.proofs.rules.put_in.Goals as goal

pub returns-then-end-le-CELLS : goal.returns-then-end-le-CELLS
returns-then-end-le-CELLS c =
    let cells = c.args.cells.now in
    let bs = c.args.bytes.now in
    let start = c.from-start.result in
    let inside : leb (c.args.cell + length bs) (length cells) ≡ true = le-leb _ _ (omega (arith, c.from-start.ensures)) in
    put_mid-put cells start (start + length bs - start) c.copy_from_slice.new.self bs c.copy_from_slice.ensures.after (omega arith) (omega arith)
    ∙ (ap (λ at. put cells at bs) c.from-start.ensures ∙ sym (cond-true _ _ _ inside))
