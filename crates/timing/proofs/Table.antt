-- A table that passes the test of the rule has the rule at each entry. Assumes nothing.
use Rattle.std.proofs.Common.{◌≡◌, ℕ, zero, suc, ◌+◌, ◌<◌, true, eqb, List, [], ◌∷◌, length, get_or, ap, ◌∙◌, arith}
use Rattle.std.proofs.lemmas.Bool.{and_parts, eqb-true}
use Rattle.timing.specs.TimeCodes.{by_stretch, stretches, by_rule}

pub ruled : (xs : List ℕ) (i k : ℕ) → by_rule i xs ≡ true → k < length xs → get_or xs k 0 ≡ by_stretch stretches (i + k)
ruled [] i k t h = absurd (omega arith)
ruled (x ∷ xs) i zero t h =
    let same : i ≡ i + 0 = omega arith in
    eqb-true x (by_stretch stretches i) (and_parts (eqb x (by_stretch stretches i)) (by_rule (suc i) xs) t).0 ∙ ap (by_stretch stretches) same
ruled (x ∷ xs) i (suc k) t h =
    let same : suc i + k ≡ i + suc k = omega arith in
    ruled xs (suc i) k (and_parts (eqb x (by_stretch stretches i)) (by_rule (suc i) xs) t).1 (omega arith) ∙ ap (by_stretch stretches) same
