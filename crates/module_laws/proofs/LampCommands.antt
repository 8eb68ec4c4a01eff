-- What the lamp commands make of each lamp of a panel and of a button interface. Assumes nothing.
use Rattle.std.proofs.Common.{◌≡◌, ℕ, ◌-◌, ◌/◌, ◌%◌, ◌^◌, ◌<◌, zero, suc, true, false, get_or, sym, refl, ap, ◌∙◌, arith, Bool, List, [], ◌++◌}
use Rattle.std.proofs.lemmas.Bool.{cond-true, cond-false, eq-eqb, ne_eqb, or_parts}
use Rattle.bus.specs.declared.frame.Frame.{Frame}
use Rattle.bus.specs.Frames.{byte, is_command}
use Rattle.station.specs.declared.event.Event.TheVariants.{Heard}
use Rattle.station.specs.Kinds.{Record, Kind, Outcome}
use Rattle.module.specs.declared.lamps.Lamps.{Lamps}
use Rattle.module.specs.declared.lamps.LampMode.{LampMode}
use Rattle.module.specs.declared.lamps.LampMode.TheVariants.{Out, On, Slow, Fast, VeryFast}
use Rattle.module.specs.Bits.{has_bit}
use Rattle.module.specs.Designs.{Design, designed}
use Rattle.module.specs.LampBytes.{lamps_after}
use Rattle.module.specs.Pushes.{bit}
use Rattle.module.proofs.Answered.{at_own}
use Rattle.module.proofs.Bitwise.{one}
use Rattle.panel.specs.Panels.{design as panel_design}
use Rattle.buttons.specs.Buttons.{design as buttons_design}
use Rattle.laws.specs.LampModes.{Light, light, shining, asks_for, LampsObey, EveryKindWithLamps}
use Rattle.laws.proofs.Bits.{bit_one, bit_named}
use Rattle.laws.proofs.LampModes.{lamps_obey}
use Rattle.module_laws.specs.AllListed.{is_one_of, lamp_commands}
use Rattle.module_laws.specs.LampCommands.{lamp_bit, LampIs, Puts, LampsPut}

-- a bit as a number
pub bit_number : (n c : ℕ) → lamp_bit n c ≡ one (has_bit n (bit c))
bit_number n c = bit_one (n / 2 ^ (c - 1) % 2) (omega arith) ∙ ap one (sym (bit_named n (c - 1)))

pub is_set : (n c : ℕ) → lamp_bit n c ≡ 1 → has_bit n (bit c) ≡ true
is_set n c e = bit_named n (c - 1) ∙ eq-eqb (lamp_bit n c) 1 e

pub is_clear : (n c : ℕ) → lamp_bit n c ≡ 0 → has_bit n (bit c) ≡ false
is_clear n c e = bit_named n (c - 1) ∙ ne_eqb (lamp_bit n c) 1 (λ o. omega arith)

-- the light of a lamp as numbers
lit : (r : Record) (c : ℕ) (x : Light) → light r c ≡ x → LampIs r c (one x.on) (one x.slow) (one x.fast)
lit r c x e =
    record {
      in_on = bit_number _ c ∙ ap (λ y. one y.on) e;
      in_slow = bit_number _ c ∙ ap (λ y. one y.slow) e;
      in_fast = bit_number _ c ∙ ap (λ y. one y.fast) e;
    }

kept : (r q : Record) (c : ℕ) → light q c ≡ light r c → LampIs q c (lamp_bit (get_or r.state 0 0) c) (lamp_bit (get_or r.state 1 0) c) (lamp_bit (get_or r.state 2 0) c)
kept r q c e =
    record {
      in_on = bit_number _ c ∙ (ap (λ y. one y.on) e ∙ sym (bit_number _ c));
      in_slow = bit_number _ c ∙ (ap (λ y. one y.slow) e ∙ sym (bit_number _ c));
      in_fast = bit_number _ c ∙ (ap (λ y. one y.fast) e ∙ sym (bit_number _ c));
    }

module _ (k : Kind) (obey : LampsObey k) where
  puts : (mode : LampMode) → Puts k (asks_for mode) (one (shining mode).on) (one (shining mode).slow) (one (shining mode).fast)
  puts mode own r f lamp low high here w small =
      let q = (k.acts own r (Heard f)).after in
      let told = obey own r f mode lamp here w small low high in (
        (λ e. lit q lamp (shining mode) (told ∙ cond-true (has_bit (byte f 1) (bit lamp)) _ _ (is_set (byte f 1) lamp e))),
        (λ e. kept r q lamp (told ∙ cond-false (has_bit (byte f 1) (bit lamp)) _ _ (is_clear (byte f 1) lamp e))),
      )

-- the lamps that the state bytes tell
abbrev lamps_of : Record → Lamps
lamps_of r = record { on = get_or r.state 0 0; slow = get_or r.state 1 0; fast = get_or r.state 2 0 }

module _ (d : Design) (by : (own : ℕ) (r : Record) (f : Frame) → lamps_of (d.command own r f).after ≡ lamps_after (lamps_of r) f) (obey : LampsObey (designed d)) where
  all_put : LampsPut (designed d)
  all_put =
      record {
        sets = λ own r f here w.
            let told : lamps_of ((designed d).acts own r (Heard f)).after ≡ record { on = byte f 1; slow = byte f 2; fast = byte f 3 } =
            ap (λ (o : Outcome). lamps_of o.after) (at_own d own r f here) ∙ (by own r f ∙ cond-true (is_command 0xF4 4 f) _ _ w) in
            record { on = ap (λ l. l.on) told; slow = ap (λ l. l.slow) told; fast = ap (λ l. l.fast) told };
        puts_out = puts (designed d) obey Out;
        puts_on = puts (designed d) obey On;
        puts_slow = puts (designed d) obey Slow;
        puts_fast = puts (designed d) obey Fast;
        puts_very_fast = puts (designed d) obey VeryFast;
      }

pub lamps_put : EveryKindWithLamps LampsPut
lamps_put =
    record {
      panel = λ s. all_put (panel_design s) (λ own r f. refl) (lamps_obey.panel s);
      buttons = λ s. all_put (buttons_design s) (λ own r f. refl) (lamps_obey.buttons s);
    }

-- a frame is none of the lamp commands, and none of those behind them
pub record IsNoLampCommand (f : Frame) (others : List (Frame → Bool)) : Type 0 where
  pub sets : is_command 0xF4 4 f ≡ false
  pub puts_out : is_command 0xF5 2 f ≡ false
  pub puts_on : is_command 0xF6 2 f ≡ false
  pub puts_slow : is_command 0xF7 2 f ≡ false
  pub puts_fast : is_command 0xF8 2 f ≡ false
  pub puts_very_fast : is_command 0xF9 2 f ≡ false
  pub rest : is_one_of others f ≡ false

pub no_lamp_command : (f : Frame) (others : List (Frame → Bool)) → is_one_of (lamp_commands ++ others) f ≡ false → IsNoLampCommand f others
no_lamp_command f others h =
    let a = or_parts (is_command 0xF4 4 f) _ h in
    let b = or_parts (is_command 0xF5 2 f) _ a.1 in
    let c = or_parts (is_command 0xF6 2 f) _ b.1 in
    let d = or_parts (is_command 0xF7 2 f) _ c.1 in
    let e = or_parts (is_command 0xF8 2 f) _ d.1 in
    let g = or_parts (is_command 0xF9 2 f) _ e.1 in
    record { sets = a.0; puts_out = b.0; puts_on = c.0; puts_slow = d.0; puts_fast = e.0; puts_very_fast = g.0; rest = g.1 }

-- what is no lamp command leaves the lamps
pub lamps_same : (l : Lamps) (f : Frame) → is_one_of lamp_commands f ≡ false → lamps_after l f ≡ l
lamps_same l f h =
    let none = no_lamp_command f [] h in
    cond-false (is_command 0xF4 4 f) _ _ none.sets
    ∙ (cond-false (is_command 0xF5 2 f) _ _ none.puts_out
    ∙ (cond-false (is_command 0xF6 2 f) _ _ none.puts_on
    ∙ (cond-false (is_command 0xF7 2 f) _ _ none.puts_slow
    ∙ (cond-false (is_command 0xF8 2 f) _ _ none.puts_fast ∙ cond-false (is_command 0xF9 2 f) _ _ none.puts_very_fast))))

-- what holds of each number below 3
pub below_three : (P : ℕ → Type 0) → P 0 → P 1 → P 2 → (i : ℕ) → i < 3 → P i
below_three P a b c zero l = a
below_three P a b c (suc zero) l = b
below_three P a b c (suc (suc zero)) l = c
below_three P a b c (suc (suc (suc n))) l = absurd (omega arith)
