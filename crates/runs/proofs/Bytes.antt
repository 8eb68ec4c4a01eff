-- What a frame leaves in a cell. Assumes nothing.
use Rattle.std.proofs.Common.{append_assoc, ◌≡◌, ℕ, inl, inr, ◌+◌, ◌-◌, ◌≤◌, Bool, true, false, cond, ◌&&◌, List, [], ◌∷◌, ◌++◌, length, get_or, Some, None, Option, refl, sym, ap, ◌∙◌, arith}
use Rattle.std.specs.Prelude.{◌==◌, nat_le, nat_lt}
use Rattle.std.proofs.ByRecursion.{All-append}
use Rattle.std.proofs.lemmas.Bool.{leb-true, ltb-true, ltb-false, leb-false}
use Rattle.bus.specs.declared.frame.Frame.{Frame}
use Rattle.station.proofs.Puts.{put_outside, put_inside}
use Rattle.station.specs.Rules.{cell, payload, put, stored, written}
use Rattle.station.specs.Seats.{nth}
use Rattle.runs.specs.Memory.{left_in, LastLeft, left, kept}

-- a byte that a frame left, or the byte before if it left none
abbrev pub IsLeft : Option ℕ → ℕ → ℕ → Type 0
IsLeft None old new = new ≡ old
IsLeft (Some b) old new = new ≡ b

module _ (own : ℕ) (cells : List ℕ) (n : ℕ) (f : Frame) where
  abbrev old : ℕ
  old = get_or cells n 0

  abbrev bs : List ℕ
  bs = payload f

  -- the bytes fit, and begin at the cell or before
  begun : cell f + length bs ≤ length cells → cell f ≤ n → IsLeft (nth (n - cell f) bs) old (get_or (put cells (cell f) bs) n 0)
  begun fits from = by (nat_lt (n - cell f) (length bs)) refl
    where
      by : (b : Bool) → nat_lt (n - cell f) (length bs) ≡ b → IsLeft (cond b (Some (get_or bs (n - cell f) 0)) None) old (get_or (put cells (cell f) bs) n 0)
      by true e =
          let here : n ≡ cell f + (n - cell f) = omega arith in
          ap (λ m. get_or (put cells (cell f) bs) m 0) here ∙ put_inside bs cells (cell f) (n - cell f) (ltb-true _ _ e) fits
      by false e = let past : length bs ≤ n - cell f = ltb-false _ _ e in put_outside bs cells (cell f) n (inr (omega arith))

  -- the bytes fit
  fitting : cell f + length bs ≤ length cells → IsLeft (cond (nat_le (cell f) n) (nth (n - cell f) bs) None) old (get_or (put cells (cell f) bs) n 0)
  fitting fits = by (nat_le (cell f) n) refl
    where
      by : (b : Bool) → nat_le (cell f) n ≡ b → IsLeft (cond b (nth (n - cell f) bs) None) old (get_or (put cells (cell f) bs) n 0)
      by true e = begun fits (leb-true _ _ e)
      by false e = put_outside bs cells (cell f) n (inl (leb-false _ _ e))

  pub left_stands : IsLeft (left_in own (length cells) n f) old (get_or (written own cells f) n 0)
  left_stands = by (f.address == own)
    where
      size : (b : Bool) → nat_le (cell f + length bs) (length cells) ≡ b → IsLeft (cond (b && nat_le (cell f) n) (nth (n - cell f) bs) None) old (get_or (cond b (put cells (cell f) bs) cells) n 0)
      size true e = fitting (leb-true _ _ e)
      size false e = refl

      by : (b : Bool) → IsLeft (cond (b && (nat_le (cell f + length bs) (length cells) && nat_le (cell f) n)) (nth (n - cell f) bs) None) old (get_or (cond b (stored cells f) cells) n 0)
      by true = size (nat_le (cell f + length bs) (length cells)) refl
      by false = refl

-- one frame more has passed
pub last_more : (own size n : ℕ) (fs : List Frame) (f : Frame) (first b new : ℕ) → LastLeft own size n fs first b → IsLeft (left_in own size n f) b new → LastLeft own size n (fs ++ f ∷ []) first new
last_more own size n fs f first b new h now = by (left_in own size n f) refl now h
  where
    by : (o : Option ℕ) → left_in own size n f ≡ o → IsLeft o b new → LastLeft own size n fs first b → LastLeft own size n (fs ++ f ∷ []) first new
    by (Some c) e l k = left fs f [] refl (e ∙ ap Some (sym l)) tt
    by None e l (left before g later split wrote quiet) =
        let longer : fs ++ f ∷ [] ≡ before ++ g ∷ (later ++ f ∷ []) = ap (λ t. t ++ f ∷ []) split ∙ append_assoc before (g ∷ later) (f ∷ []) in
        left before g (later ++ f ∷ []) longer (wrote ∙ ap Some (sym l)) (All-append (λ x. left_in own size n x ≡ None) later (f ∷ []) quiet (e, tt))
    by None e l (kept quiet same) = kept (All-append (λ x. left_in own size n x ≡ None) fs (f ∷ []) quiet (e, tt)) (l ∙ same)
