-- Cells that bytes are put into one by one. Assumes nothing.
use Rattle.std.proofs.Common.{◌≡◌, ℕ, zero, suc, ◌+◌, ◌-◌, ◌<◌, ◌≤◌, ◌≢◌, get_or, inl, inr, length-set, List, [], ◌∷◌, ◌++◌, length, take, drop, set, sym, refl, ap, ◌∙◌, arith, add-one}
use Rattle.std.specs.Prelude.{◌⊎◌}
use Rattle.std.proofs.lemmas.List.{take_all, get_or-set_same, get_or-set_other}
use Rattle.std.proofs.lemmas.List.Edits.{sets, sets-eq}
use Rattle.std.proofs.lemmas.Slice.{put_mid-paste, between-put_mid}
use Rattle.std.proofs.Math.Seq.{length-sets}
use borrow.Rule.Slice.PartMut.{put_mid}
use Rattle.station.specs.Rules.{put}

put-sets : (bs cells : List ℕ) (at : ℕ) → put cells at bs ≡ sets cells at bs
put-sets [] cells at = refl
put-sets (b ∷ bs) cells at = put-sets bs (set cells at b) (at + 1) ∙ ap (λ k. sets (set cells at b) k bs) (add-one at)

pub put_mid-put : (cells : List ℕ) (at n : ℕ) (part bs : List ℕ) → part ≡ bs → n ≡ length bs → at + length bs ≤ length cells → put_mid at n cells part ≡ put cells at bs
put_mid-put cells at n part bs e f fits =
    put_mid-paste at n cells part bs (length bs) e (sym f) refl ∙ (ap (λ t. take at cells ++ t ++ drop (at + length bs) cells) (take_all (length bs) bs (omega arith)) ∙ (sym (sets-eq bs cells at fits) ∙ sym (put-sets bs cells at)))

pub length-put : (cells : List ℕ) (at : ℕ) (bs : List ℕ) → length (put cells at bs) ≡ length cells
length-put cells at bs = ap length (put-sets bs cells at) ∙ length-sets cells at bs

-- where they were put in, they stand
pub put_stands : (cells : List ℕ) (at : ℕ) (bs : List ℕ) → at + length bs ≤ length cells → take (length bs) (drop at (put cells at bs)) ≡ bs
put_stands cells at bs fits =
    let n = length bs in
    let long : n ≡ at + n - at = omega arith in
    ap (λ t. take n (drop at t)) (sym (put_mid-put cells at n bs bs refl refl fits))
    ∙ (ap (λ k. take k (drop at (put_mid at n cells bs))) long ∙ between-put_mid at n cells bs (at + n) (omega arith) long)

-- a cell below or above those that bytes are put into stays
pub put_outside : (bs cells : List ℕ) (at n : ℕ) → ((n < at) ⊎ (at + length bs ≤ n)) → get_or (put cells at bs) n 0 ≡ get_or cells n 0
put_outside [] cells at n out = refl
put_outside (b ∷ bs) cells at n (inl low) =
    let other : n ≢ at = λ e. absurd (omega (arith, e)) in
    put_outside bs (set cells at b) (at + 1) n (inl (omega arith)) ∙ get_or-set_other cells at n b 0 other
put_outside (b ∷ bs) cells at n (inr high) =
    let other : n ≢ at = λ e. absurd (omega (arith, e)) in
    put_outside bs (set cells at b) (at + 1) n (inr (omega arith)) ∙ get_or-set_other cells at n b 0 other

-- the others hold the bytes
pub put_inside : (bs cells : List ℕ) (at k : ℕ) → k < length bs → at + length bs ≤ length cells → get_or (put cells at bs) (at + k) 0 ≡ get_or bs k 0
put_inside [] cells at k h fits = absurd (omega arith)
put_inside (b ∷ bs) cells at zero h fits =
    let here : at + 0 ≡ at = omega arith in
    ap (λ n. get_or (put (set cells at b) (at + 1) bs) n 0) here ∙ (put_outside bs (set cells at b) (at + 1) at (inl (omega arith)) ∙ get_or-set_same cells at b 0 (omega arith))
put_inside (b ∷ bs) cells at (suc k) h fits =
    let here : at + suc k ≡ at + 1 + k = omega arith in
    ap (λ n. get_or (put (set cells at b) (at + 1) bs) n 0) here ∙ put_inside bs (set cells at b) (at + 1) k (omega arith) (omega (arith, length-set cells at b))
