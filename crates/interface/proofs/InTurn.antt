-- The steps of a row of acts. Assumes nothing.
use Rattle.std.proofs.Common.{◌≡◌, ℕ, zero, suc, ◌+◌, ◌-◌, ◌<◌, Bool, true, false, cond, List, ◌∷◌, fold, sym, refl, ap, ◌∙◌, arith}
use Rattle.module.specs.Searches.{passing}
use Rattle.interface.specs.Links.{in_turn}

module _ {A : Type 0} (act : ℕ → A → A) where
  pub in_turn_more : (i n : ℕ) (x : A) → 0 < n → in_turn act i n x ≡ in_turn act (i + 1) (n - 1) (act i x)
  unfolding in_turn
  in_turn_more i zero x h = absurd (omega arith)
  in_turn_more i (suc n) x h =
      let down : n ≡ suc n - 1 = omega arith in
      let up : suc i ≡ i + 1 = omega arith in
      ap (λ k. in_turn act k n (act i x)) up ∙ ap (λ k. in_turn act (i + 1) k (act i x)) down

  pub in_turn_none : (i n : ℕ) (x : A) → n ≡ 0 → in_turn act i n x ≡ x
  unfolding in_turn
  in_turn_none i zero x h = refl
  in_turn_none i (suc n) x h = absurd (omega arith)

  -- acts that change nothing
  pub in_turn_idle : ((k : ℕ) → (x : A) → act k x ≡ x) → (i n : ℕ) (x : A) → in_turn act i n x ≡ x
  unfolding in_turn
  in_turn_idle h i zero x = refl
  in_turn_idle h i (suc n) x = ap (in_turn act (suc i) n) (h i x) ∙ in_turn_idle h (suc i) n x

-- numbers whose act changes nothing can be left out
module _ {A : Type 0} (act : ℕ → A → A) (used : ℕ → Bool) (idle : (k : ℕ) → used k ≡ false → (x : A) → act k x ≡ x) where
  pub fold-passing : (i n : ℕ) (x : A) → fold (λ y k. act k y) x (passing used i n) ≡ in_turn act i n x
  unfolding passing in_turn
  fold-passing i zero x = refl
  fold-passing i (suc n) x =
      let rest : List ℕ = passing used (suc i) n in
      by i rest x (used i) (idle i) ∙ fold-passing (suc i) n (act i x)
    where
      by : (i : ℕ) (rest : List ℕ) (x : A) (u : Bool) → (u ≡ false → (x : A) → act i x ≡ x) → fold (λ y k. act k y) x (cond u (i ∷ rest) rest) ≡ fold (λ y k. act k y) (act i x) rest
      by i rest x true h = refl
      by i rest x false h = ap (λ y. fold (λ y k. act k y) y rest) (sym (h refl x))
