use Rattle.std.proofs.Common.{◌≡◌, ℕ, ◌+◌, ◌-◌, ◌<◌, Bool, true, false, List, [], ◌∷◌, ◌++◌, length, take, set, append_assoc, sym, ap, ◌∙◌, arith}
use Rattle.std.proofs.lemmas.List.{take_more_set, append-nil, length-set}
use Rattle.module.specs.Cells.{memory_cells}
use Rattle.module.specs.Searches.{seatable, row_in_use, passing}
use Rattle.module.proofs.Passing.{passing_here, passing_not_here, passing_none}
use Rattle.module.proofs.rows.Rows.in_use.Goals as goal
use Rattle.module.proofs.rows.Rows.in_use.Goals.{then-is_seatable, else-is_seatable}

-- a number that passes is noted
noted : (test : ℕ → Bool) (xs all : List ℕ) (count k end : ℕ) → k < end → count < length xs → test k ≡ true → take count xs ++ passing test k (end - k) ≡ all → take (count + 1) (set xs count k) ++ passing test (k + 1) (end - (k + 1)) ≡ all
noted test xs all count k end h within e is =
    let n : end - k - 1 ≡ end - (k + 1) = omega arith in
    ap (λ t. t ++ passing test (k + 1) (end - (k + 1))) (take_more_set xs count k within)
    ∙ (append_assoc (take count xs) (k ∷ []) (passing test (k + 1) (end - (k + 1)))
    ∙ (ap (λ t. take count xs ++ t) (sym (passing_here test k (end - k) (omega arith) e ∙ ap (λ m. k ∷ passing test (k + 1) m) n)) ∙ is))

-- any other is passed over
passed : (test : ℕ → Bool) (xs all : List ℕ) (count k end : ℕ) → k < end → test k ≡ false → take count xs ++ passing test k (end - k) ≡ all → take count xs ++ passing test (k + 1) (end - (k + 1)) ≡ all
passed test xs all count k end h e is =
    let n : end - k - 1 ≡ end - (k + 1) = omega arith in
    ap (λ t. take count xs ++ t) (sym (passing_not_here test k (end - k) (omega arith) e ∙ ap (passing test (k + 1)) n)) ∙ is

pub loop-k-preserved : goal.loop-k-preserved
loop-k-preserved g c =
    let k = c.loop-k.k in
    let end = c.unwrap_or-k-end.result in
    let cells = memory_cells c.args.memory.now in
    let test : ℕ → Bool = row_in_use cells c.args.start c.args.step in
    let read : c.is_seatable.result ≡ test k =
    c.is_seatable.ensures ∙ (ap seatable c.read.ensures ∙ (λ i. row_in_use cells (c.from.ensures i) (c.from-in-loop-k.ensures i) (c.from-in-loop-k-2.ensures i))) in
    let rest = passing test (k + 1) (end - (k + 1)) in
    elim c.if-is_seatable.branch [
      | then-is_seatable w ↦
          record {
            end = c.loop-k.invariant.end;
            few = omega arith;
            full = ap length w.numbers-is ∙ (length-set c.loop-k.numbers c.loop-k.count k ∙ c.loop-k.invariant.full);
            row =
                (λ i. take (w.count-is i) (w.numbers-is i) ++ rest)
                ∙ noted test c.loop-k.numbers _ c.loop-k.count k end c.loop-k-test.true (omega arith) (sym read ∙ w.if-is_seatable.true) c.loop-k.invariant.row;
          }
      | else-is_seatable w ↦
          record {
            end = c.loop-k.invariant.end;
            few = omega arith;
            full = ap length w.numbers-is ∙ c.loop-k.invariant.full;
            row =
                (λ i. take (w.count-is i) (w.numbers-is i) ++ rest)
                ∙ passed test c.loop-k.numbers _ c.loop-k.count k end c.loop-k-test.true (sym read ∙ w.if-is_seatable.false) c.loop-k.invariant.row;
          }
    ]

pub returns : goal.returns
returns g c =
    let n = c.unwrap_or-k-end.result in
    let test : ℕ → Bool = row_in_use (memory_cells c.args.memory.now) c.args.start c.args.step in
    sym (append-nil _) ∙ (ap (λ t. take c.loop-k.count c.loop-k.numbers ++ t) (sym (passing_none test c.loop-k.k (n - c.loop-k.k) (omega arith))) ∙ c.loop-k.invariant.row)
