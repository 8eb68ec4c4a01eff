-- A byte of two lists, one after the other. Assumes nothing.
use Rattle.std.proofs.Common.{◌≡◌, ℕ, ◌-◌, ◌<◌, ◌≤◌, cond, ltb, List, ◌++◌, length, get_or, Some, None, sym, ap, ◌∙◌, arith, length-append}
use Rattle.std.proofs.lemmas.List.{get_or_append_left, get_or-append_right}
use Rattle.std.proofs.lemmas.Bool.{cond-true, lt-ltb}
use Rattle.std.proofs.lemmas.Bool.Decides.{nat_tests}
use Rattle.station.specs.Seats.{nth}

module _ (xs ys : List ℕ) (i : ℕ) where
  pub nth_left : i < length xs → Some (get_or xs i 0) ≡ nth i (xs ++ ys)
  nth_left h =
      let within : i < length (xs ++ ys) = simp length-append (omega arith) in
      sym (cond-true (ltb i (length (xs ++ ys))) _ _ (lt-ltb _ _ within) ∙ ap Some (get_or_append_left xs ys 0 i h))

  pub nth_right : (n : ℕ) → length xs ≡ n → n ≤ i → nth (i - n) ys ≡ nth i (xs ++ ys)
  nth_right n e l =
      let same : ltb (i - n) (length ys) ≡ ltb i (length (xs ++ ys)) = simp length-append (grind (arith, nat_tests)) in
      let here : get_or ys (i - n) 0 ≡ get_or (xs ++ ys) i 0 = sym (get_or-append_right xs ys n i 0 e l) in
      λ j. cond (same j) (Some (here j)) None
