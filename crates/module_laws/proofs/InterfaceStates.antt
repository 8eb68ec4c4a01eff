-- The state bytes of a button interface, as they are decoded. Assumes nothing.
use Rattle.std.proofs.Common.{◌≡◌, ℕ, zero, suc, ◌-◌, ◌/◌, ◌%◌, ◌^◌, ◌<◌, ◌≤◌, min, eqb, refl, ap, ◌∙◌, arith}
use Rattle.std.specs.Int.{bit_at}
use lib.Bits.{bit_and}
use Rattle.std.proofs.lemmas.Nat.Bits.{bit_at_and}
use Rattle.station.specs.Kinds.{Record}
use Rattle.module.specs.Bits.{has_bit}
use Rattle.module.specs.Pushes.{bit}
use Rattle.module.proofs.Bitwise.{at_place}
use Rattle.button_laws.specs.Interfaces.{hold as decoded_hold}
use Rattle.button_laws.proofs.Eight.{of_eight}
use Rattle.module_laws.specs.InterfaceStates.{hold, names_channel}
use Rattle.laws.proofs.Bits.{bit_one}

-- the hold is the decoded one
pub same_hold : (r : Record) (channel : ℕ) → 1 ≤ channel → channel ≤ 8 → hold r channel ≡ decoded_hold r channel
same_hold r = of_eight (λ c. hold r c ≡ decoded_hold r c) refl refl refl refl refl refl refl refl

-- each of the eight bits counts
full : (i : ℕ) → i < 8 → bit_at 255 i ≡ 1
full zero h = refl
full (suc zero) h = refl
full (suc (suc zero)) h = refl
full (suc (suc (suc zero))) h = refl
full (suc (suc (suc (suc zero)))) h = refl
full (suc (suc (suc (suc (suc zero))))) h = refl
full (suc (suc (suc (suc (suc (suc zero)))))) h = refl
full (suc (suc (suc (suc (suc (suc (suc zero))))))) h = refl
full (suc (suc (suc (suc (suc (suc (suc (suc i)))))))) h = absurd (omega arith)

-- in a byte of channel bits
pub same_bit : (n channel : ℕ) → 1 ≤ channel → channel ≤ 8 → has_bit (bit_and n 0xFF) (bit channel) ≡ names_channel n channel
same_bit n channel low high =
    let i : ℕ = channel - 1 in
    let within : i < 8 = omega arith in
    let m : ℕ = n / 2 ^ i % 2 in
    let small : min m 1 ≡ m = omega arith in
    at_place (bit_and n 0xFF) i (eqb m 1) (bit_at_and n 255 i ∙ (ap (min m) (full i within) ∙ (small ∙ bit_one m (omega arith))))
