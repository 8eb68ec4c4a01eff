-- The bits of a byte by arithmetic. Assumes nothing.
use Rattle.std.proofs.Common.{◌≡◌, ℕ, ◌/◌, ◌%◌, ◌^◌, ◌<◌, eqb, sym, ap, ◌∙◌, inl, inr, arith}
use Rattle.std.proofs.lemmas.Bool.{eq-eqb, ne_eqb, cases_eq}
use Rattle.module.specs.Bits.{has_bit}
use Rattle.module.proofs.Bitwise.{one, at_place}

-- a bit as a number
pub bit_one : (m : ℕ) → m < 2 → m ≡ one (eqb m 1)
bit_one m l =
    elim (cases_eq m 1) [
      | inl e ↦ e ∙ sym (ap one (eq-eqb m 1 e))
      | inr d ↦ let z : m ≡ 0 = omega arith in z ∙ sym (ap one (ne_eqb m 1 d))
    ]

pub bit_named : (n i : ℕ) → has_bit n (2 ^ i) ≡ eqb (n / 2 ^ i % 2) 1
bit_named n i = at_place n i (eqb (n / 2 ^ i % 2) 1) (bit_one (n / 2 ^ i % 2) (omega arith))
