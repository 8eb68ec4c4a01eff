use Rattle.std.proofs.Common.{is_some, sym, refl, ap, ◌∙◌, rules, tests}
use Rattle.std.specs.List.{range_with_len}
use Rattle.std.proofs.lemmas.Iterator.{YieldsList-from_range}
use Rattle.std.proofs.lemmas.Iterator.Search.{any_from_yields_List}
use Rattle.module.specs.Cells.{memory_cells}
use Rattle.module.proofs.First.{first-find, is_some-find}
use Rattle.interface.specs.Links.{bears}
use Rattle.interface.proofs.records.Records.names_of_all.Goals as goal

pub returns : goal.returns
returns c =
    let test = bears (memory_cells c.args.self.now.memory) c.args.address in
    any_from_yields_List test _ _ c.any.result c.any.ensures.ran (YieldsList-from_range 0 51 51 refl refl) (λ x b q k. search (rules, tests))
    ∙ (sym (is_some-find test (range_with_len 0 51)) ∙ sym (ap is_some (first-find test 0 51)))
