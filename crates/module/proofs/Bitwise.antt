-- The bits of a byte, one by one. Assumes nothing.
use Rattle.std.proofs.Common.{◌≡◌, ℕ, ◌-◌, ◌*◌, ◌^◌, ◌<◌, min, max, Bool, true, false, cond, not, ◌&&◌, ◌||◌, sym, refl, ap, ◌∙◌, inl, inr, arith}
use Rattle.std.specs.Int.{bit_at, w8}
use lib.Bits.{bit_and, bit_or}
use Rattle.std.proofs.lemmas.Bool.{eq-eqb, ne_eqb, cases_eq}
use Rattle.std.proofs.lemmas.Nat.{pow_pos}
use Rattle.std.proofs.lemmas.Nat.Bits.{and_pow, and_high, bit_at-lt, bit_at_and, bit_at_or, bit_at_not, bit_at-pow_same, bit_at-pow_other}
use Rattle.module.specs.Bits.{has_bit}

-- a truth value as a number
abbrev pub one : Bool → ℕ
one b = cond b 1 0

-- a number with that bit at a place has it
pub at_place : (n i : ℕ) (b : Bool) → bit_at n i ≡ one b → has_bit n (2 ^ i) ≡ b
at_place n i true e = ap not (ne_eqb (bit_and n (2 ^ i)) 0 (λ z. omega (arith, and_pow n i, ap (λ k. k * 2 ^ i) e, pow_pos i)))
at_place n i false e = ap not (eq-eqb (bit_and n (2 ^ i)) 0 (omega (arith, and_pow n i, ap (λ k. k * 2 ^ i) e)))

-- and the other way round
place : (n i : ℕ) → bit_at n i ≡ one (has_bit n (2 ^ i))
place n i =
    elim (cases_eq (bit_at n i) 0) [
      | inl none ↦ none ∙ ap one (sym (at_place n i false none))
      | inr some ↦ let set : bit_at n i ≡ 1 = omega (arith, some, bit_at-lt n i) in set ∙ ap one (sym (at_place n i true set))
    ]

either : (a b : Bool) → max (one a) (one b) ≡ one (a || b)
either true true = refl
either true false = refl
either false true = refl
either false false = refl

both : (a b : Bool) → min (one a) (1 - one b) ≡ one (a && not b)
both true true = refl
both true false = refl
both false true = refl
both false false = refl

-- bits set, and bits cleared
pub has_set : (a b i : ℕ) → has_bit (bit_or a b) (2 ^ i) ≡ (has_bit a (2 ^ i) || has_bit b (2 ^ i))
has_set a b i =
    at_place (bit_or a b) i (has_bit a (2 ^ i) || has_bit b (2 ^ i))
    (bit_at_or a b i ∙ ((λ j. max (place a i j) (place b i j)) ∙ either (has_bit a (2 ^ i)) (has_bit b (2 ^ i))))

pub has_cleared : (a b i : ℕ) → b < 256 → i < 8 → has_bit (bit_and a (255 - b)) (2 ^ i) ≡ (has_bit a (2 ^ i) && not (has_bit b (2 ^ i)))
has_cleared a b i byte within =
    at_place (bit_and a (255 - b)) i (has_bit a (2 ^ i) && not (has_bit b (2 ^ i)))
    (bit_at_and a (255 - b) i
    ∙ (ap (min (bit_at a i)) (bit_at_not w8 b i byte within)
    ∙ ((λ j. min (place a i j) (1 - place b i j)) ∙ both (has_bit a (2 ^ i)) (has_bit b (2 ^ i)))))

-- a byte with one bit
pub has_own : (i : ℕ) → has_bit (2 ^ i) (2 ^ i) ≡ true
has_own i = at_place (2 ^ i) i true (bit_at-pow_same i)

pub has_no_other : (k i : ℕ) → (i ≡ k → ⊥) → has_bit (2 ^ k) (2 ^ i) ≡ false
has_no_other k i apart = at_place (2 ^ k) i false (bit_at-pow_other k i apart)

-- no bit is one of none
pub has_none : (bits : ℕ) → has_bit bits 0 ≡ false
has_none bits = ap not (eq-eqb (bit_and bits 0) 0 (omega (arith, and_high bits 0 0)))
