use Rattle.std.proofs.Common.{◌≡◌, ℕ, ◌+◌, ◌*◌, ◌/◌, ◌&&◌, not, eqb, true, List, get_or, sym, ap, ◌∙◌, rules, tests}
use Rattle.std.specs.List.{find}
use Rattle.std.proofs.lemmas.Bool.{and_parts, eqb-true}
use Rattle.std.proofs.lemmas.Iterator.{YieldsList-from_slice}
use Rattle.std.proofs.lemmas.Iterator.Consumers.{YieldsList-from_copied}
use Rattle.std.proofs.lemmas.Iterator.Adapters.{option_map_id}
use Rattle.std.proofs.lemmas.Iterator.Search.{find_from_yields_List}
use Rattle.module.specs.Cells.{memory_cells}
use Rattle.module.specs.Searches.{seatable, row_in_use}
use Rattle.module.proofs.Passing.{find-passing}
use Rattle.relay.specs.declared.query.Query.{Query}
use Rattle.relay.specs.Tables.{pair_cell, matches, in_common}
use Rattle.relay.proofs.pairs.Pairs.first_in_use.Goals as goal

-- a pair that fits the query bears its address, which is that of a seat
among : (cells : List ℕ) (c : ℕ) (q : Query) → seatable q.address ≡ true → (k : ℕ) → matches cells c q k ≡ true → row_in_use cells (256 * c) 2 k ≡ true
among cells c q seat k e =
    let here = eqb (get_or cells (pair_cell c k) 0) q.address in
    let common = in_common q.buttons (get_or cells (pair_cell c k + 1) 0) in
    let fits = (and_parts (not (eqb (k / 15) 3)) (here && common) e).1 in
    ap seatable (eqb-true _ _ (and_parts here common fits).0) ∙ seat

pub returns : goal.returns
returns c =
    let cells = memory_cells c.args.self.now.memory in
    let test = matches cells c.args.c c.args.query in
    sym (option_map_id c.find.result)
    ∙ (find_from_yields_List test _ _ c.find.result c.find.ensures.ran (YieldsList-from_copied (YieldsList-from_slice c.args.used.now (cc))) (λ x b q k. search (rules, tests))
    ∙ (ap (find test) c.requires.used
    ∙ find-passing (row_in_use cells (256 * c.args.c) 2) test (among cells c.args.c c.args.query c.requires.seat) 0 120))
