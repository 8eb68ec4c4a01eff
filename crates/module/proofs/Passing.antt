-- The numbers that pass a test, one by one, and a search among them. Assumes nothing.
use Rattle.std.proofs.Common.{◌≡◌, ℕ, zero, suc, ◌+◌, ◌-◌, ◌<◌, Bool, true, false, cond, List, [], ◌∷◌, is_some, Some, refl, sym, ap, ◌∙◌, arith}
use Rattle.std.specs.List.{find, list_any}
use Rattle.std.proofs.lemmas.Bool.{false≢true}
use Rattle.module.specs.Searches.{first, passing}
use Rattle.module.proofs.First.{is_some-find}

module _ (test : ℕ → Bool) where
  pub passing_here : (i n : ℕ) → 0 < n → test i ≡ true → passing test i n ≡ i ∷ passing test (i + 1) (n - 1)
  unfolding passing
  passing_here i zero h e = absurd (omega arith)
  passing_here i (suc n) h e =
      let down : n ≡ suc n - 1 = omega arith in
      let up : suc i ≡ i + 1 = omega arith in
      ap (λ b. cond b (i ∷ passing test (suc i) n) (passing test (suc i) n)) e ∙ (λ j. i ∷ passing test (up j) (down j))

  pub passing_not_here : (i n : ℕ) → 0 < n → test i ≡ false → passing test i n ≡ passing test (i + 1) (n - 1)
  unfolding passing
  passing_not_here i zero h e = absurd (omega arith)
  passing_not_here i (suc n) h e =
      let down : n ≡ suc n - 1 = omega arith in
      let up : suc i ≡ i + 1 = omega arith in
      ap (λ b. cond b (i ∷ passing test (suc i) n) (passing test (suc i) n)) e ∙ (λ j. passing test (up j) (down j))

  pub passing_none : (i n : ℕ) → n ≡ 0 → passing test i n ≡ []
  unfolding passing
  passing_none i zero h = refl
  passing_none i (suc n) h = absurd (omega arith)

-- numbers that pass one test, if all that pass another are among them, do for a search with the other
module _ (used test : ℕ → Bool) (among : (k : ℕ) → test k ≡ true → used k ≡ true) where
  by : (i : ℕ) (rest : List ℕ) (u : Bool) → (test i ≡ true → u ≡ true) → find test (cond u (i ∷ rest) rest) ≡ cond (test i) (Some i) (find test rest)
  by i rest true h = refl
  by i rest false h = not_found (test i) h
    where
      not_found : (t : Bool) → (t ≡ true → false ≡ true) → find test rest ≡ cond t (Some i) (find test rest)
      not_found true h = absurd (false≢true (h refl))
      not_found false h = refl

  pub find-passing : (i n : ℕ) → find test (passing used i n) ≡ first test i n
  unfolding passing first
  find-passing i zero = refl
  find-passing i (suc n) =
      let rest : List ℕ = passing used (suc i) n in
      by i rest (used i) (among i) ∙ ap (cond (test i) (Some i)) (find-passing (suc i) n)

  pub any-passing : (i n : ℕ) → list_any test (passing used i n) ≡ is_some (first test i n)
  any-passing i n = sym (is_some-find test (passing used i n)) ∙ ap is_some (find-passing i n)
