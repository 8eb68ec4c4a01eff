use Rattle.std.proofs.Common.{ap, ◌∙◌, rules, tests}
use Rattle.std.specs.List.{list_any}
use Rattle.std.proofs.lemmas.Iterator.{YieldsList-from_slice}
use Rattle.std.proofs.lemmas.Iterator.Search.{any_from_yields_List}
use Rattle.module.specs.Cells.{memory_cells}
use Rattle.module.proofs.Passing.{any-passing}
use Rattle.interface.specs.Links.{bears}
use Rattle.interface.proofs.InUse.{in_use, bearer_in_use}
use Rattle.interface.proofs.records.Records.names_in_use.Goals as goal

pub returns : goal.returns
returns c =
    let cells = memory_cells c.args.self.now.memory in
    let a = c.args.address in
    let test = bears cells a in
    any_from_yields_List test _ _ c.any.result c.any.ensures.ran (YieldsList-from_slice c.numbers.result.now (cc)) (λ x b q k. search (rules, tests))
    ∙ (ap (list_any test) (c.numbers.ensures ∙ c.args.self.now.listed)
    ∙ any-passing (in_use cells) test (bearer_in_use cells a c.requires) 0 51)
