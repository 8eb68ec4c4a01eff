-- A push moves one button. Assumes nothing.
use Rattle.std.proofs.Common.{◌≡◌, ℕ, zero, suc, ◌-◌, ◌<◌, ◌≤◌, Bool, true, false, not, ◌&&◌, ◌||◌, eqb, ltb, leb, [], slice_index, sym, refl, ap, ◌∙◌, subst, inl, inr, arith}
use Rattle.std.proofs.lemmas.Bool.{false≢true, not-true, cond-true, cond-false, cond_both, and_parts, and_from, and_right, or_right, cases_eq, ltb-true, leb-true}
use Rattle.std.proofs.lemmas.Nat.{pow_below}
use Rattle.station.specs.declared.edge.Edge.{Edge}
use Rattle.station.specs.declared.edge.Edge.TheVariants.{Press, Release, LongPress}
use Rattle.station.specs.declared.event.Push.{Push}
use Rattle.station.specs.Kinds.{Record, Outcome}
use Rattle.module.specs.Bits.{has_bit}
use Rattle.module.specs.Designs.{Design, designed}
use Rattle.module.specs.Pushes.{bit, down, possible, accepted, after_edge, pressed_after, push_sent}
use Rattle.module.proofs.Bitwise.{has_set, has_cleared, has_own, has_no_other}
use Rattle.panel.specs.declared.panel.PanelSetup.{PanelSetup}
use Rattle.panel.specs.Panels.{design as panel_design}
use Rattle.timing.specs.Holds.{locked}
use Rattle.interface.specs.declared.setup.InterfaceSetup.{InterfaceSetup}
use Rattle.interface.specs.Channels.{hold_on}
use Rattle.interface.specs.States.{decoded}
use Rattle.buttons.specs.Buttons.{design as buttons_design}
use Rattle.laws.specs.Pushing.{left_down, counts, PushMoves, ButtonsStay, PushIgnored, EveryKindWithButtons}

or_false : (b : Bool) → (b || false) ≡ b
or_false true = refl
or_false false = refl

and_true : (b : Bool) → (b && true) ≡ b
and_true true = refl
and_true false = refl

-- the pressed bits after an edge at a channel
module _ (n c : ℕ) (low : 1 ≤ c) (high : c ≤ 8) where
  moved : (e : Edge) → possible e (down n c) ≡ true → down (after_edge e n (bit c)) c ≡ left_down e
  moved Press h = has_set n (bit c) (c - 1) ∙ (ap (λ t. has_bit n (bit c) || t) (has_own (c - 1)) ∙ or_right (has_bit n (bit c)) true refl)
  moved Release h =
      has_cleared n (bit c) (c - 1) (pow_below (c - 1) 8 (omega arith)) (omega arith)
      ∙ (ap (λ t. has_bit n (bit c) && not t) (has_own (c - 1)) ∙ and_right (has_bit n (bit c)) false refl)
  moved LongPress h = h

  others : (e : Edge) (d : ℕ) → 1 ≤ d → d ≤ 8 → (d ≡ c → ⊥) → down (after_edge e n (bit c)) d ≡ down n d
  others Press d l h apart =
      has_set n (bit c) (d - 1)
      ∙ (ap (λ t. has_bit n (bit d) || t) (has_no_other (c - 1) (d - 1) (λ same. apart (omega arith))) ∙ or_false (has_bit n (bit d)))
  others Release d l h apart =
      has_cleared n (bit c) (d - 1) (pow_below (c - 1) 8 (omega arith)) (omega arith)
      ∙ (ap (λ t. has_bit n (bit d) && not t) (has_no_other (c - 1) (d - 1) (λ same. apart (omega arith))) ∙ and_true (has_bit n (bit d)))
  others LongPress d l h apart = refl

-- a design whose pushes are those of eight buttons, where none is locked, and do nothing where one is
record ByButtons (is_locked : Record → ℕ → Bool) (d : Design) : Type 0 where
  sends : (own : ℕ) (r : Record) (c : ℕ) (e : Edge) → is_locked r c ≡ false → (d.push own r c e).sent ≡ push_sent own 8 (slice_index r.state 3) c e
  presses : (own : ℕ) (r : Record) (c : ℕ) (e : Edge) → is_locked r c ≡ false → slice_index (d.push own r c e).after.state 3 ≡ pressed_after 8 (slice_index r.state 3) c e
  quiet : (own : ℕ) (r : Record) (c : ℕ) (e : Edge) → is_locked r c ≡ true → ((d.push own r c e).sent ≡ []) × (slice_index (d.push own r c e).after.state 3 ≡ slice_index r.state 3)
  keeps : (own : ℕ) (r : Record) (c : ℕ) (e : Edge) (i : ℕ) → i < 3 → slice_index (d.push own r c e).after.state i ≡ slice_index r.state i

module _ (is_locked : Record → ℕ → Bool) (d : Design) (by : ByButtons is_locked d) where
  moves : PushMoves is_locked (designed d)
  moves own r p will =
      let n = slice_index r.state 3 in
      let c = p.channel in
      let can = possible p.edge (down n c) in
      let here = and_parts (eqb p.address own) (ltb 0 c && (leb c 8 && (not (is_locked r c) && can))) will in
      let low = and_parts (ltb 0 c) (leb c 8 && (not (is_locked r c) && can)) here.1 in
      let high = and_parts (leb c 8) (not (is_locked r c) && can) low.1 in
      let able = and_parts (not (is_locked r c)) can high.1 in
      let free = not-true (is_locked r c) able.0 in
      let done = cond-true {A = Outcome} (eqb p.address own) (d.push own r c p.edge) _ here.0 in
      let accepts : accepted 8 n c p.edge ≡ true = and_from (ltb 0 c) _ low.0 (and_from (leb c 8) _ high.0 able.1) in
      let pressed : slice_index (d.push own r c p.edge).after.state 3 ≡ after_edge p.edge n (bit c) = by.presses own r c p.edge free ∙ cond-true (accepted 8 n c p.edge) _ _ accepts in
      let first = ltb-true 0 c low.0 in
      let last = leb-true c 8 high.0 in
      record {
        told = ap (λ (o : Outcome). o.sent) done ∙ (by.sends own r c p.edge free ∙ cond-true (accepted 8 n c p.edge) _ _ accepts);
        moved = ap (λ (o : Outcome). down (slice_index o.after.state 3) c) done ∙ (ap (λ b. down b c) pressed ∙ moved n c first last p.edge able.1);
        others = λ a l h apart. ap (λ (o : Outcome). down (slice_index o.after.state 3) a) done ∙ (ap (λ b. down b a) pressed ∙ others n c first last p.edge a l h apart);
        lamps = λ i l. ap (λ (o : Outcome). slice_index o.after.state i) done ∙ by.keeps own r c p.edge i l;
      }

  -- the fourth byte with the first three
  first_four : (own : ℕ) (r : Record) (c : ℕ) (e : Edge) → slice_index (d.push own r c e).after.state 3 ≡ slice_index r.state 3 → (i : ℕ) → i < 4 → slice_index (d.push own r c e).after.state i ≡ slice_index r.state i
  first_four own r c e fourth i l =
      elim (cases_eq i 3) [
        | inl last ↦ subst (λ j. slice_index (d.push own r c e).after.state j ≡ slice_index r.state j) (sym last) fourth
        | inr other ↦ by.keeps own r c e i (omega (arith, other))
      ]

  -- a push at the own address that does not count
  still : (own : ℕ) (r : Record) (p : Push) (b : Bool) → is_locked r p.channel ≡ b → eqb p.address own ≡ true → counts is_locked own r p ≡ false → ButtonsStay r (d.push own r p.channel p.edge)
  still own r p true shut here not_counted =
      let quiet = by.quiet own r p.channel p.edge shut in
      record { silent = quiet.0; same = first_four own r p.channel p.edge quiet.1 }
  still own r p false free here not_counted =
      let n = slice_index r.state 3 in
      let c = p.channel in
      let can = possible p.edge (down n c) in
      let as_counted : counts is_locked own r p ≡ accepted 8 n c p.edge = λ i. here i && (ltb 0 c && (leb c 8 && (not (free i) && can))) in
      let ignored : accepted 8 n c p.edge ≡ false = sym as_counted ∙ not_counted in
      record {
        silent = by.sends own r c p.edge free ∙ cond-false (accepted 8 n c p.edge) _ _ ignored;
        same = first_four own r c p.edge (by.presses own r c p.edge free ∙ cond-false (accepted 8 n c p.edge) _ _ ignored);
      }

  ignores : PushIgnored is_locked (designed d)
  ignores own r p why =
      cond_both (eqb p.address own) _ _ (ButtonsStay r)
      (λ here. still own r p (is_locked r p.channel) refl here why)
      (λ _. record { silent = refl; same = λ i l. refl })

-- what holds of each number below 3
below_three : (P : ℕ → Type 0) → P 0 → P 1 → P 2 → (i : ℕ) → i < 3 → P i
below_three P a b c zero l = a
below_three P a b c (suc zero) l = b
below_three P a b c (suc (suc zero)) l = c
below_three P a b c (suc (suc (suc n))) l = absurd (omega arith)

panel_by : (s : PanelSetup) → ByButtons (λ r c. false) (panel_design s)
panel_by s =
    record {
      sends = λ own r c e free. refl;
      presses = λ own r c e free. refl;
      quiet = λ own r c e never. absurd (false≢true never);
      keeps = λ own r c e. below_three (λ i. slice_index ((panel_design s).push own r c e).after.state i ≡ slice_index r.state i) refl refl refl;
    }

buttons_by : (s : InterfaceSetup) → ByButtons (λ r c. locked (hold_on (decoded r.state).holds c)) (buttons_design s)
buttons_by s =
    record {
      sends = λ own r c e free. cond-false (locked (hold_on (decoded r.state).holds c)) _ _ free;
      presses = λ own r c e free. cond-false (locked (hold_on (decoded r.state).holds c)) _ _ free;
      quiet = λ own r c e shut. (cond-true (locked (hold_on (decoded r.state).holds c)) _ _ shut, cond-true (locked (hold_on (decoded r.state).holds c)) _ _ shut);
      keeps = λ own r c e. below_three (λ i. slice_index ((buttons_design s).push own r c e).after.state i ≡ slice_index r.state i) refl refl refl;
    }

pub push_moves : EveryKindWithButtons PushMoves
push_moves = record { panel = λ s. moves _ _ (panel_by s); buttons = λ s. moves _ _ (buttons_by s) }

pub push_ignored : EveryKindWithButtons PushIgnored
push_ignored = record { panel = λ s. ignores _ _ (panel_by s); buttons = λ s. ignores _ _ (buttons_by s) }
