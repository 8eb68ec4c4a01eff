-- Eight holds: what is done to the named ones leaves the others, and how many there are. Assumes nothing.
use Rattle.std.proofs.Common.{◌≡◌, ℕ, zero, suc, ◌-◌, ◌*◌, ◌<◌, ◌≤◌, true, false, ◌&&◌, List, [], ◌∷◌, length, get_or, is_some, Some, None, Option, refl, ap, ◌∙◌, arith}
use Rattle.std.proofs.lemmas.Bool.{cond-true, cond-false, cond_both}
use Rattle.bus.specs.declared.frame.Frame.{Frame}
use Rattle.module.specs.Bits.{has_bit}
use Rattle.module.specs.Pushes.{bit}
use Rattle.timing.specs.declared.locking.Locking.{Locking}
use Rattle.timing.specs.Holds.{obeyed, ticked}
use Rattle.interface.specs.Channels.{hold_on, on_named, held_after, all_ticked}
use Rattle.interface.specs.Links.{matches, by_record, in_turn, by_records}

-- what holds of each number from 1 to 8
pub of_eight : (P : ℕ → Type 0) → P 1 → P 2 → P 3 → P 4 → P 5 → P 6 → P 7 → P 8 → (c : ℕ) → 1 ≤ c → c ≤ 8 → P c
of_eight P a b d e f g h i zero l u = absurd (omega arith)
of_eight P a b d e f g h i (suc zero) l u = a
of_eight P a b d e f g h i (suc (suc zero)) l u = b
of_eight P a b d e f g h i (suc (suc (suc zero))) l u = d
of_eight P a b d e f g h i (suc (suc (suc (suc zero)))) l u = e
of_eight P a b d e f g h i (suc (suc (suc (suc (suc zero))))) l u = f
of_eight P a b d e f g h i (suc (suc (suc (suc (suc (suc zero)))))) l u = g
of_eight P a b d e f g h i (suc (suc (suc (suc (suc (suc (suc zero))))))) l u = h
of_eight P a b d e f g h i (suc (suc (suc (suc (suc (suc (suc (suc zero)))))))) l u = i
of_eight P a b d e f g h i (suc (suc (suc (suc (suc (suc (suc (suc (suc n))))))))) l u = absurd (omega arith)

-- the bit so many places above a bit
abbrev above : ℕ → ℕ → ℕ
above b zero = b
above b (suc i) = above (2 * b) i

is_bit : (c : ℕ) → 1 ≤ c → c ≤ 8 → above 1 (c - 1) ≡ bit c
is_bit = of_eight (λ c. above 1 (c - 1) ≡ bit c) refl refl refl refl refl refl refl refl

on_named_keeps : (l : Locking) (bits b : ℕ) (hs : List ℕ) (i : ℕ) → has_bit bits (above b i) ≡ false → get_or (on_named l bits b hs) i 0 ≡ get_or hs i 0
on_named_keeps l bits b [] i e = refl
on_named_keeps l bits b (h ∷ hs) zero e = cond-false (has_bit bits b) _ _ e
on_named_keeps l bits b (h ∷ hs) (suc i) e = on_named_keeps l bits (2 * b) hs i e

on_named_obeys : (l : Locking) (bits b : ℕ) (hs : List ℕ) (i : ℕ) → i < length hs → has_bit bits (above b i) ≡ true → get_or (on_named l bits b hs) i 0 ≡ obeyed l (get_or hs i 0)
on_named_obeys l bits b [] i h e = absurd (omega arith)
on_named_obeys l bits b (h ∷ hs) zero n e = cond-true (has_bit bits b) _ _ e
on_named_obeys l bits b (h ∷ hs) (suc i) n e = on_named_obeys l bits (2 * b) hs i (omega arith) e

length-on_named : (l : Locking) (bits b : ℕ) (hs : List ℕ) → length (on_named l bits b hs) ≡ length hs
length-on_named l bits b [] = refl
length-on_named l bits b (h ∷ hs) = ap suc (length-on_named l bits (2 * b) hs)

pub length-held_after : (l : Option Locking) (bits : ℕ) (hs : List ℕ) → length (held_after l bits hs) ≡ length hs
length-held_after None bits hs = refl
length-held_after (Some l) bits hs = length-on_named l bits 1 hs

pub length-ticked : (hs : List ℕ) → length (all_ticked hs) ≡ length hs
length-ticked [] = refl
length-ticked (h ∷ hs) = ap suc (length-ticked hs)

-- a second passes for each hold alike
pub ticked_at : (hs : List ℕ) (i : ℕ) → get_or (all_ticked hs) i 0 ≡ ticked (get_or hs i 0)
ticked_at [] i = refl
ticked_at (h ∷ hs) zero = refl
ticked_at (h ∷ hs) (suc i) = ticked_at hs i

module _ (channel : ℕ) (low : 1 ≤ channel) (high : channel ≤ 8) where
  -- where nothing is asked of the channel, its hold stays
  pub held_after_keeps : (l : Option Locking) (bits : ℕ) (hs : List ℕ) → (is_some l && has_bit bits (bit channel)) ≡ false → hold_on (held_after l bits hs) channel ≡ hold_on hs channel
  held_after_keeps None bits hs e = refl
  held_after_keeps (Some l) bits hs e = on_named_keeps l bits 1 hs (channel - 1) (ap (has_bit bits) (is_bit channel low high) ∙ e)

  -- a named channel does what is asked
  pub named_obeys : (l : Locking) (bits : ℕ) (hs : List ℕ) → length hs ≡ 8 → has_bit bits (bit channel) ≡ true → hold_on (held_after (Some l) bits hs) channel ≡ obeyed l (hold_on hs channel)
  named_obeys l bits hs n e = on_named_obeys l bits 1 hs (channel - 1) (omega arith) (ap (has_bit bits) (is_bit channel low high) ∙ e)

pub length-in_turn : (act : ℕ → List ℕ → List ℕ) → ((k : ℕ) (hs : List ℕ) → length (act k hs) ≡ length hs) → (i n : ℕ) (hs : List ℕ) → length (in_turn act i n hs) ≡ length hs
unfolding in_turn
length-in_turn act same i zero hs = refl
length-in_turn act same i (suc n) hs = length-in_turn act same (suc i) n (act i hs) ∙ same i hs

pub length-by_record : (channels : ℕ) (cells : List ℕ) (f : Frame) (k : ℕ) (hs : List ℕ) → length (by_record channels cells f k hs) ≡ length hs
length-by_record channels cells f k hs = cond_both (matches cells f k) _ hs (λ t. length t ≡ length hs) (λ _. length-held_after _ _ hs) (λ _. refl)

pub length-by_records : (channels : ℕ) (cells : List ℕ) (f : Frame) (hs : List ℕ) → length (by_records channels cells f hs) ≡ length hs
length-by_records channels cells f hs = length-in_turn (by_record channels cells f) (length-by_record channels cells f) 0 51 hs
