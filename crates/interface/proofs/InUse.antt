-- Which records do nothing. Assumes nothing.
use Rattle.std.proofs.Common.{◌≡◌, ℕ, ◌+◌, ◌*◌, Bool, true, false, ◌&&◌, List, get_or, sym, refl, ap, ◌∙◌, arith}
use Rattle.std.proofs.lemmas.Bool.{and_parts, eqb-true, cond_both, cond-false, true≢false}
use Rattle.std.proofs.Math.Bool.{and-false}
use Rattle.bus.specs.declared.frame.Frame.{Frame}
use Rattle.bus.specs.Frames.{byte}
use Rattle.module.specs.Bits.{has_bit}
use Rattle.module.specs.Searches.{seatable, row_in_use}
use Rattle.module.proofs.Bitwise.{has_none}
use Rattle.interface.specs.Links.{link_byte, bears, matches, by_record, by_records}
use Rattle.interface.proofs.InTurn.{in_turn_idle}

-- whether a record is in use
abbrev pub in_use : List ℕ → ℕ → Bool
in_use cells k = row_in_use cells 0x0100 5 k

pub bearer_in_use : (cells : List ℕ) (a : ℕ) → seatable a ≡ true → (k : ℕ) → bears cells a k ≡ true → in_use cells k ≡ true
bearer_in_use cells a seat k e =
    let place : 0x0100 + 5 * k ≡ 0x0100 + 5 * k + 0 = omega arith in
    ap (λ i. seatable (get_or cells i 0)) place ∙ (ap seatable (eqb-true (link_byte cells k 0) a e) ∙ seat)

-- a record that is not in use, for the address of a seat
pub unused_idle : (channels : ℕ) (cells : List ℕ) (f : Frame) → seatable f.address ≡ true → (k : ℕ) → in_use cells k ≡ false → (hs : List ℕ) → by_record channels cells f k hs ≡ hs
unused_idle channels cells f seat k none hs =
    cond_both (matches cells f k) _ hs (λ t. t ≡ hs)
    (λ e. absurd (true≢false (sym (bearer_in_use cells f.address seat k (and_parts (bears cells f.address k) (has_bit (link_byte cells k 1) (byte f 1)) e).0) ∙ none)))
    (λ _. refl)

-- nor does any record where no button was just pressed
pub unasked_idle : (channels : ℕ) (cells : List ℕ) (f : Frame) (hs : List ℕ) → byte f 1 ≡ 0 → by_records channels cells f hs ≡ hs
unasked_idle channels cells f hs e =
    let none : (k : ℕ) → matches cells f k ≡ false = λ k.
    let here = bears cells f.address k in
    (λ i. here && has_bit (link_byte cells k 1) (e i)) ∙ ((λ i. here && has_none (link_byte cells k 1) i) ∙ and-false here) in
    in_turn_idle (by_record channels cells f) (λ k x. cond-false (matches cells f k) _ x (none k)) 0 51 hs
