-- A search for the first number that passes a test is one over the list of the numbers. Assumes nothing.
use Rattle.std.proofs.Common.{◌≡◌, ℕ, zero, suc, ◌+◌, Bool, true, false, cond, ◌||◌, List, [], ◌∷◌, is_some, None, Some, refl, ap, ◌∙◌, arith}
use Rattle.std.specs.List.{find, list_any, range_with_len}
use Rattle.module.specs.Searches.{first}

module _ (test : ℕ → Bool) where
  pub first-find : (i n : ℕ) → first test i n ≡ find test (range_with_len i n)
  unfolding first
  first-find i zero = refl
  first-find i (suc n) =
      let up : suc i ≡ i + 1 = omega arith in
      ap (cond (test i) (Some i)) (first-find (suc i) n ∙ ap (λ k. find test (range_with_len k n)) up)

  -- where none passes, none is found
  pub first_none : ((k : ℕ) → test k ≡ false) → (i n : ℕ) → first test i n ≡ None
  unfolding first
  first_none h i zero = refl
  first_none h i (suc n) = ap (λ b. cond b (Some i) (first test (suc i) n)) (h i) ∙ first_none h (suc i) n

  pub is_some-find : (xs : List ℕ) → is_some (find test xs) ≡ list_any test xs
  is_some-find [] = refl
  is_some-find (x ∷ xs) = by (test x) (is_some-find xs)
    where
      by : (b : Bool) → is_some (find test xs) ≡ list_any test xs → is_some (cond b (Some x) (find test xs)) ≡ (b || list_any test xs)
      by true h = refl
      by false h = h
