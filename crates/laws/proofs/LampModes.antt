-- A lamp command puts the lamps that it names in a mode. Assumes nothing.
use Rattle.std.proofs.Common.{◌≡◌, ℕ, ◌-◌, ◌<◌, ◌≤◌, Bool, true, false, cond, not, ◌&&◌, ◌||◌, slice_index, refl, ap, ◌∙◌, arith}
use Rattle.std.proofs.lemmas.Bool.{cond-true, cond-false}
use Rattle.bus.specs.declared.frame.Frame.{Frame}
use Rattle.bus.specs.Frames.{byte, is_command}
use Rattle.bus.proofs.Commands.{other_command}
use Rattle.station.specs.declared.event.Event.TheVariants.{Heard}
use Rattle.station.specs.Kinds.{Record, Outcome}
use Rattle.module.specs.declared.lamps.Lamps.{Lamps}
use Rattle.module.specs.declared.lamps.LampMode.{LampMode}
use Rattle.module.specs.declared.lamps.LampMode.TheVariants.{Out, On, Slow, Fast, VeryFast}
use Rattle.module.specs.Bits.{has_bit}
use Rattle.module.specs.Designs.{Design, designed}
use Rattle.module.specs.LampBytes.{marked, put_in, lamps_after}
use Rattle.module.specs.Pushes.{bit}
use Rattle.module.proofs.Answered.{at_own}
use Rattle.module.proofs.Bitwise.{has_set, has_cleared}
use Rattle.panel.specs.Panels.{design as panel_design}
use Rattle.buttons.specs.Buttons.{design as buttons_design}
use Rattle.laws.specs.LampModes.{Light, shining, asks_for, LampsObey, LampsAreSet, EveryKindWithLamps}

-- the lamps that the state bytes tell
abbrev lamps_of : Record → Lamps
lamps_of r = record { on = slice_index r.state 0; slow = slice_index r.state 1; fast = slice_index r.state 2 }

abbrev light_of : Lamps → ℕ → Light
light_of l c = record { on = has_bit l.on (bit c); slow = has_bit l.slow (bit c); fast = has_bit l.fast (bit c) }

-- what the command for a mode makes of them
after_mode : (l : Lamps) (f : Frame) (mode : LampMode) → is_command (asks_for mode) 2 f ≡ true → lamps_after l f ≡ put_in mode l (byte f 1)
after_mode l f Out w = cond-false (is_command 0xF4 4 f) _ _ (other_command 0xF5 2 f w 0xF4 4 refl) ∙ cond-true (is_command 0xF5 2 f) _ _ w
after_mode l f On w =
    cond-false (is_command 0xF4 4 f) _ _ (other_command 0xF6 2 f w 0xF4 4 refl)
    ∙ (cond-false (is_command 0xF5 2 f) _ _ (other_command 0xF6 2 f w 0xF5 2 refl) ∙ cond-true (is_command 0xF6 2 f) _ _ w)
after_mode l f Slow w =
    cond-false (is_command 0xF4 4 f) _ _ (other_command 0xF7 2 f w 0xF4 4 refl)
    ∙ (cond-false (is_command 0xF5 2 f) _ _ (other_command 0xF7 2 f w 0xF5 2 refl)
    ∙ (cond-false (is_command 0xF6 2 f) _ _ (other_command 0xF7 2 f w 0xF6 2 refl) ∙ cond-true (is_command 0xF7 2 f) _ _ w))
after_mode l f Fast w =
    cond-false (is_command 0xF4 4 f) _ _ (other_command 0xF8 2 f w 0xF4 4 refl)
    ∙ (cond-false (is_command 0xF5 2 f) _ _ (other_command 0xF8 2 f w 0xF5 2 refl)
    ∙ (cond-false (is_command 0xF6 2 f) _ _ (other_command 0xF8 2 f w 0xF6 2 refl)
    ∙ (cond-false (is_command 0xF7 2 f) _ _ (other_command 0xF8 2 f w 0xF7 2 refl) ∙ cond-true (is_command 0xF8 2 f) _ _ w)))
after_mode l f VeryFast w =
    cond-false (is_command 0xF4 4 f) _ _ (other_command 0xF9 2 f w 0xF4 4 refl)
    ∙ (cond-false (is_command 0xF5 2 f) _ _ (other_command 0xF9 2 f w 0xF5 2 refl)
    ∙ (cond-false (is_command 0xF6 2 f) _ _ (other_command 0xF9 2 f w 0xF6 2 refl)
    ∙ (cond-false (is_command 0xF7 2 f) _ _ (other_command 0xF9 2 f w 0xF7 2 refl)
    ∙ (cond-false (is_command 0xF8 2 f) _ _ (other_command 0xF9 2 f w 0xF8 2 refl) ∙ cond-true (is_command 0xF9 2 f) _ _ w))))

-- a marked byte has the wanted bit where it is named, and else the old one
marked_bit : (wanted : Bool) (old bits c : ℕ) → bits < 256 → 1 ≤ c → c ≤ 8 → has_bit (marked wanted old bits) (bit c) ≡ cond (has_bit bits (bit c)) wanted (has_bit old (bit c))
marked_bit true old bits c byte low high = has_set old bits (c - 1) ∙ set (has_bit old (bit c)) (has_bit bits (bit c))
  where
    set : (a b : Bool) → (a || b) ≡ cond b true a
    set true true = refl
    set true false = refl
    set false true = refl
    set false false = refl
marked_bit false old bits c byte low high = has_cleared old bits (c - 1) byte (omega arith) ∙ cleared (has_bit old (bit c)) (has_bit bits (bit c))
  where
    cleared : (a b : Bool) → (a && not b) ≡ cond b false a
    cleared true true = refl
    cleared true false = refl
    cleared false true = refl
    cleared false false = refl

-- three truth values at once
chosen : (b : Bool) (x y : Light) → record { on = cond b x.on y.on; slow = cond b x.slow y.slow; fast = cond b x.fast y.fast } ≡ cond b x y
chosen true x y = refl
chosen false x y = refl

module _ (bits c : ℕ) (byte : bits < 256) (low : 1 ≤ c) (high : c ≤ 8) where
  in_three : (on slow fast : Bool) (l : Lamps) → let x : Light = record { on = on; slow = slow; fast = fast } in
      record { on = has_bit (marked on l.on bits) (bit c); slow = has_bit (marked slow l.slow bits) (bit c); fast = has_bit (marked fast l.fast bits) (bit c) } ≡ cond (has_bit bits (bit c)) x (light_of l c)
  in_three on slow fast l =
      (λ i. record { on = marked_bit on l.on bits c byte low high i; slow = marked_bit slow l.slow bits c byte low high i; fast = marked_bit fast l.fast bits c byte low high i })
      ∙ chosen (has_bit bits (bit c)) (record { on = on; slow = slow; fast = fast }) (light_of l c)

  light_put : (mode : LampMode) (l : Lamps) → light_of (put_in mode l bits) c ≡ cond (has_bit bits (bit c)) (shining mode) (light_of l c)
  light_put Out l = in_three false false false l
  light_put On l = in_three true false false l
  light_put Slow l = in_three false true false l
  light_put Fast l = in_three false false true l
  light_put VeryFast l = in_three false true true l

-- a design whose lamps obey the lamp commands
abbrev ByLamps : Design → Type 0
ByLamps d = (own : ℕ) (r : Record) (f : Frame) → lamps_of (d.command own r f).after ≡ lamps_after (lamps_of r) f

module _ (d : Design) (by : ByLamps d) where
  lights : (own : ℕ) (r : Record) (f : Frame) (c : ℕ) → f.address ≡ own → light_of (lamps_of ((designed d).acts own r (Heard f)).after) c ≡ light_of (lamps_after (lamps_of r) f) c
  lights own r f c here = ap (λ (o : Outcome). light_of (lamps_of o.after) c) (at_own d own r f here) ∙ ap (λ l. light_of l c) (by own r f)

  follow : LampsObey (designed d)
  follow own r f mode c here w byte low high = lights own r f c here ∙ (ap (λ l. light_of l c) (after_mode (lamps_of r) f mode w) ∙ light_put _ c byte low high mode (lamps_of r))

  are_set : LampsAreSet (designed d)
  are_set own r f c here w = lights own r f c here ∙ ap (λ l. light_of l c) (cond-true (is_command 0xF4 4 f) _ _ w)

pub lamps_obey : EveryKindWithLamps LampsObey
lamps_obey = record { panel = λ s. follow (panel_design s) (λ own r f. refl); buttons = λ s. follow (buttons_design s) (λ own r f. refl) }

pub lamps_are_set : EveryKindWithLamps LampsAreSet
lamps_are_set = record { panel = λ s. are_set (panel_design s) (λ own r f. refl); buttons = λ s. are_set (buttons_design s) (λ own r f. refl) }
