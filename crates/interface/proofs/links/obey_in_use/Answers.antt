use Rattle.std.proofs.Common.{ℕ, List, fold, sym, ap, ◌∙◌, arith}
use Rattle.std.proofs.lemmas.List.{at_drop_all}
use Rattle.module.specs.Cells.{memory_cells}
use Rattle.interface.specs.Links.{by_record}
use Rattle.interface.specs.Shown.{all_held}
use Rattle.interface.proofs.InTurn.{fold-passing}
use Rattle.interface.proofs.InUse.{in_use, unused_idle}
use Rattle.interface.proofs.links.obey_in_use.Goals as goal

pub returns : goal.returns
returns c =
    let cells = memory_cells c.args.memory.now in
    let f = c.args.frame.now in
    let act = by_record c.args.channels cells f in
    let step = λ (hs : List ℕ) (k : ℕ). act k hs in
    let before = all_held c.args.holds.now in
    sym (at_drop_all (fold step (all_held c.loop-k.holds)) c.args.used.now c.loop-k.k-index (omega arith))
    ∙ (c.loop-k.invariant
    ∙ (ap (fold step before) c.requires.used
    ∙ fold-passing act (in_use cells) (unused_idle c.args.channels cells f c.requires.seat) 0 51 before))
