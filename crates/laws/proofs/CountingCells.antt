-- Memories that differ only in cells that do not count. Assumes nothing.
use Rattle.std.proofs.Common.{◌≡◌, ℕ, zero, suc, ◌+◌, ◌<◌, ◌≤◌, Bool, cond, leb, List, [], ◌∷◌, length, get_or, set, Some, sym, refl, ap, ◌∙◌, subst, inl, inr, length-set, arith}
use Rattle.std.proofs.lemmas.List.{get_or-set_same, get_or-set_other}
use Rattle.std.proofs.lemmas.Bool.{cond-true, cond-false, cond_both, leb-true, cases_eq}
use Rattle.bus.specs.declared.frame.Frame.{Frame}
use Rattle.station.specs.Kinds.{Record, Kind}
use Rattle.station.specs.Rules.{cell, payload, put, stored}
use Rattle.module.specs.Searches.{first}
use Rattle.laws.specs.CountingCells.{SameWhere, AlikeRecords, ActAlike, OtherCellsIgnored}

-- two searches by tests that agree
pub first_same : (test other : ℕ → Bool) (i n : ℕ) → ((q : ℕ) → q < i + n → test q ≡ other q) → first test i n ≡ first other i n
unfolding first
first_same test other i zero h = refl
first_same test other i (suc n) h = λ j. cond (h i (omega arith) j) (Some i) (first_same test other (suc i) n (λ q l. h q (omega arith)) j)

module _ (Counts : ℕ → Type 0) where
  -- bytes put into both
  set_alike : (cells others : List ℕ) (at b : ℕ) → SameWhere Counts cells others → at < length cells → SameWhere Counts (set cells at b) (set others at b)
  set_alike cells others at b alike l =
      record {
        size = length-set cells at b ∙ (alike.size ∙ sym (length-set others at b));
        same = λ a h. elim (cases_eq a at) [
          | inl e ↦
              ap (λ n. get_or (set cells at b) n 0) e
              ∙ (get_or-set_same cells at b 0 l ∙ (sym (get_or-set_same others at b 0 (omega (arith, alike.size))) ∙ ap (λ n. get_or (set others at b) n 0) (sym e)))
          | inr d ↦ get_or-set_other cells at a b 0 d ∙ (alike.same a h ∙ sym (get_or-set_other others at a b 0 d))
        ];
      }

  put_alike : (bs cells others : List ℕ) (at : ℕ) → SameWhere Counts cells others → at + length bs ≤ length cells → SameWhere Counts (put cells at bs) (put others at bs)
  put_alike [] cells others at alike l = alike
  put_alike (b ∷ bs) cells others at alike l =
      put_alike bs (set cells at b) (set others at b) (at + 1) (set_alike cells others at b alike (omega arith)) (omega (arith, length-set cells at b))

  pub stored_alike : (cells others : List ℕ) (f : Frame) → SameWhere Counts cells others → SameWhere Counts (stored cells f) (stored others f)
  stored_alike cells others f alike =
      let n : ℕ = cell f + length (payload f) in
      let there : leb n (length others) ≡ leb n (length cells) = ap (leb n) (sym alike.size) in
      cond_both (leb n (length cells)) (put cells (cell f) (payload f)) cells (λ t. SameWhere Counts t (stored others f))
      (λ fits. subst (SameWhere Counts (put cells (cell f) (payload f))) (sym (cond-true (leb n (length others)) _ _ (there ∙ fits))) (put_alike (payload f) cells others (cell f) alike (leb-true n (length cells) fits)))
      (λ past. subst (SameWhere Counts cells) (sym (cond-false (leb n (length others)) _ _ (there ∙ past))) alike)

  -- what holds of each event holds after any
  pub ignored : (k : Kind) → ((own : ℕ) (r q : Record) → AlikeRecords Counts r q → ActAlike Counts k own r q) → OtherCellsIgnored Counts k
  ignored k one own r q h [] = one own r q h
  ignored k one own r q h (e ∷ es) = ignored k one own (k.acts own r e).after (k.acts own q e).after ((one own r q h).after e) es
