use Rattle.std.proofs.Common.{sym, refl, ◌∙◌, rules, tests}
use Rattle.std.proofs.lemmas.Iterator.{YieldsList-from_range}
use Rattle.std.proofs.lemmas.Iterator.Adapters.{option_map_id}
use Rattle.std.proofs.lemmas.Iterator.Search.{find_from_yields_List}
use Rattle.module.specs.Cells.{memory_cells}
use Rattle.module.proofs.First.{first-find}
use Rattle.relay.specs.Tables.{matches}
use Rattle.relay.proofs.pairs.Pairs.first_of_all.Goals as goal

pub returns : goal.returns
returns c =
    let test = matches (memory_cells c.args.self.now.memory) c.args.c c.args.query in
    sym (option_map_id c.find.result)
    ∙ (find_from_yields_List test _ _ c.find.result c.find.ensures.ran (YieldsList-from_range 0 120 120 refl refl) (λ x b q k. search (rules, tests))
    ∙ sym (first-find test 0 120))
