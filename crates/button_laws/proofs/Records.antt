-- The link records act in their order. Assumes nothing.
use Rattle.std.proofs.Common.{◌≡◌, ℕ, zero, suc, ◌+◌, ◌-◌, ◌<◌, ◌≤◌, true, false, List, length, is_some, Some, sym, refl, ap, ◌∙◌, inl, inr, arith}
use lib.Bits.{bit_and}
use Rattle.std.proofs.lemmas.Bool.{cond-true, cond_both, and_parts, and_cases, both_ways}
use Rattle.bus.specs.declared.frame.Frame.{Frame}
use Rattle.module.specs.Bits.{has_bit}
use Rattle.module.specs.Pushes.{bit}
use Rattle.timing.specs.declared.locking.Locking.{Locking}
use Rattle.timing.specs.Holds.{obeyed}
use Rattle.interface.specs.declared.variant.Variant.{Variant}
use Rattle.interface.specs.Channels.{hold_on, held_after}
use Rattle.interface.specs.Links.{link_byte, matches, asked, by_record, in_turn, by_records}
use Rattle.interface.proofs.InTurn.{in_turn_none}
use Rattle.button_laws.specs.Holding.{record_acts, InOrder, ActsAlone, ActsLast}
use Rattle.button_laws.proofs.Eight.{length-in_turn, length-by_record, held_after_keeps, named_obeys}

-- the last act of a row, that of k, comes after the others
in_turn_last : (act : ℕ → List ℕ → List ℕ) (i n k : ℕ) → i + n ≡ k → (hs : List ℕ) → in_turn act i (suc n) hs ≡ act k (in_turn act i n hs)
unfolding in_turn
in_turn_last act i zero k e hs =
    let here : i ≡ k = omega arith in
    ap (λ j. act j hs) here
in_turn_last act i (suc n) k e hs = in_turn_last act (suc i) n k (omega arith) (act i hs)

module _ (v : Variant) (cells : List ℕ) (f : Frame) (channel : ℕ) (low : 1 ≤ channel) (high : channel ≤ 8) where
  abbrev one : ℕ → List ℕ → List ℕ
  one = by_record v.channels cells f

  keeps : (k : ℕ) → record_acts v cells f channel k ≡ false → (hs : List ℕ) → hold_on (one k hs) channel ≡ hold_on hs channel
  keeps k none hs =
      cond_both (matches cells f k) _ hs (λ t. hold_on t channel ≡ hold_on hs channel)
      (λ e. elim (and_cases (matches cells f k) _ none) [
        | inl miss ↦ absurd (both_ways (matches cells f k) miss e)
        | inr unasked ↦ held_after_keeps channel low high (asked (link_byte cells k 2) (link_byte cells k 3)) _ hs unasked
      ])
      (λ _. refl)

  obeys : (k : ℕ) (l : Locking) → record_acts v cells f channel k ≡ true → asked (link_byte cells k 2) (link_byte cells k 3) ≡ Some l →
      (hs : List ℕ) → length hs ≡ 8 → hold_on (one k hs) channel ≡ obeyed l (hold_on hs channel)
  obeys k l acts asks hs e =
      let both = and_parts (matches cells f k) _ acts in
      let bits = bit_and (link_byte cells k 4) v.channels in
      let named = (and_parts (is_some (asked (link_byte cells k 2) (link_byte cells k 3))) (has_bit bits (bit channel)) both.1).1 in
      ap (λ t. hold_on t channel) (cond-true (matches cells f k) (held_after (asked (link_byte cells k 2) (link_byte cells k 3)) bits hs) hs both.0)
      ∙ (ap (λ t. hold_on (held_after t bits hs) channel) asks ∙ named_obeys channel low high l bits hs e named)

  pub in_order : (hs : List ℕ) → length hs ≡ 8 → InOrder v cells f channel (hold_on hs channel) (hold_on (by_records v.channels cells f hs) channel)
  in_order hs e =
      let after : ℕ → List ℕ = λ k. in_turn one 0 k hs in
      record {
        before = λ k. hold_on (after k) channel;
        starts = ap (λ t. hold_on t channel) (in_turn_none one 0 0 hs refl);
        ends = refl;
        acts = λ k l _ acts asks. ap (λ t. hold_on t channel) (in_turn_last one 0 k k (omega arith) hs) ∙ obeys k l acts asks (after k) (length-in_turn one (length-by_record v.channels cells f) 0 k hs ∙ e);
        passes = λ k _ none. ap (λ t. hold_on t channel) (in_turn_last one 0 k k (omega arith) hs) ∙ keeps k none (after k);
      }

  module _ (first last : ℕ) (x : InOrder v cells f channel first last) where
    -- records that do not act, n from a on, leave the hold
    none_acts : (a n b : ℕ) → a + n ≡ b → b ≤ 51 → ((j : ℕ) → a ≤ j → j < b → record_acts v cells f channel j ≡ false) → x.before b ≡ x.before a
    none_acts a zero b e within none =
        let here : b ≡ a = omega arith in
        ap x.before here
    none_acts a (suc n) zero e within none = absurd (omega arith)
    none_acts a (suc n) (suc b) e within none =
        x.passes b (omega arith) (none b (omega arith) (omega arith)) ∙ none_acts a n b (omega arith) (omega arith) (λ j from to. none j from (omega arith))

    pub where_none_acts : ((j : ℕ) → j < 51 → record_acts v cells f channel j ≡ false) → last ≡ first
    where_none_acts none = sym x.ends ∙ (none_acts 0 51 51 (omega arith) (omega arith) (λ j _ to. none j to) ∙ x.starts)

    pub where_last_acts : (k : ℕ) (l : Locking) → ActsLast v cells f channel k → asked (link_byte cells k 2) (link_byte cells k 3) ≡ Some l → last ≡ obeyed l (x.before k)
    where_last_acts k l only asks =
        let within = only.within in
        sym x.ends ∙ (none_acts (suc k) (50 - k) 51 (omega arith) (omega arith) (λ j from to. only.last j (omega arith) to) ∙ x.acts k l within only.acts asks)

    pub where_one_acts : (k : ℕ) (l : Locking) → ActsAlone v cells f channel k → asked (link_byte cells k 2) (link_byte cells k 3) ≡ Some l → last ≡ obeyed l first
    where_one_acts k l only asks =
        let within = only.within in
        where_last_acts k l (record { within = within; acts = only.acts; last = λ j from to. only.alone j to (λ same. omega arith) }) asks
        ∙ ap (obeyed l) (none_acts 0 k k (omega arith) (omega arith) (λ j from to. only.alone j (omega arith) (λ same. omega arith)) ∙ x.starts)
