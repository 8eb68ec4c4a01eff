-- What the commands of a relay make of its channels. Assumes nothing.
use Rattle.std.proofs.Common.{◌≡◌, ℕ, ◌<◌, min, max, true, false, cond, eqb, Some, None, Option, refl, ap, ◌∙◌, arith}
use Rattle.std.proofs.lemmas.Bool.{cond-true, cond-false, cond_both, eq-eqb, ne_eqb}
use Rattle.bus.specs.declared.frame.Frame.{Frame}
use Rattle.bus.specs.Frames.{byte, is_command}
use Rattle.bus.proofs.Commands.{other_command}
use Rattle.station.specs.declared.event.Event.TheVariants.{Heard}
use Rattle.station.specs.Kinds.{Record, from_link}
use Rattle.station.specs.Rules.{stored}
use Rattle.module.specs.Designs.{idle}
use Rattle.module.proofs.Answered.{at_own}
use Rattle.relay.specs.declared.relay.RelaySetup.{RelaySetup}
use Rattle.relay.specs.declared.action.Action.{Action}
use Rattle.relay.specs.declared.action.Action.TheVariants.{Clear, Set, Start}
use Rattle.relay.specs.Contacts.{Contact, running}
use Rattle.relay.specs.Relays.{contacts, start_action, commanded, named_channels, carried, carried_out}
use Rattle.relay.specs.Relays.{design as relay_design}
use Rattle.relay.proofs.Decoded.{decoded}
use Rattle.laws.specs.Channels.{ChannelNumber, channel_1, channel_2, channel_3, channel_4, of_channel}
use Rattle.kinds.specs.Kinds.{relay_kind, EveryRelay}
use Rattle.laws.proofs.Bits.{bit_named}
use Rattle.relay_laws.specs.RelayCommands.{is_named, CommandsObeyed}
use Rattle.laws.specs.Numbers.{seconds}

pub named : (f : Frame) (c : ChannelNumber) → of_channel c (named_channels f) ≡ is_named f c
named f channel_1 = bit_named (byte f 1) 0
named f channel_2 = bit_named (byte f 1) 1
named f channel_3 = bit_named (byte f 1) 2
named f channel_4 = bit_named (byte f 1) 3

-- each channel after a frame at the own address
pub commanded_channel : (s : RelaySetup) (own : ℕ) (r : Record) (f : Frame) (c : ChannelNumber) → f.address ≡ own →
    of_channel c (contacts ((relay_kind s).acts own r (Heard f)).after) ≡ carried (commanded f) (is_named f c) (of_channel c (contacts r))
commanded_channel s own r f c e =
    ap (λ o. of_channel c (contacts o.after)) (at_own (relay_design s) own r f e)
    ∙ (ap (of_channel c) (decoded (stored r.cells f) (carried_out (commanded f) (named_channels f) (contacts r)))
    ∙ (each c ∙ ap (λ b. carried (commanded f) b (of_channel c (contacts r))) (named f c)))
  where
    each : (c : ChannelNumber) → of_channel c (carried_out (commanded f) (named_channels f) (contacts r)) ≡ carried (commanded f) (of_channel c (named_channels f)) (of_channel c (contacts r))
    each channel_1 = refl
    each channel_2 = refl
    each channel_3 = refl
    each channel_4 = refl

-- the action of each command
asks_clear : (f : Frame) → is_command 0x01 2 f ≡ true → commanded f ≡ Some Clear
asks_clear f e = cond-true (is_command 0x01 2 f) _ _ e

asks_set : (f : Frame) → is_command 0x02 2 f ≡ true → commanded f ≡ Some Set
asks_set f e = cond-false (is_command 0x01 2 f) _ _ (other_command 0x02 2 f e 0x01 2 refl) ∙ cond-true (is_command 0x02 2 f) _ _ e

asks_start : (f : Frame) → is_command 0x03 5 f ≡ true → commanded f ≡ start_action (seconds f)
asks_start f e =
    cond-false (is_command 0x01 2 f) _ _ (other_command 0x03 5 f e 0x01 2 refl)
    ∙ (cond-false (is_command 0x02 2 f) _ _ (other_command 0x03 5 f e 0x02 2 refl) ∙ cond-true (is_command 0x03 5 f) _ _ e)

pub asks_none : (f : Frame) → is_command 0x01 2 f ≡ false → is_command 0x02 2 f ≡ false → is_command 0x03 5 f ≡ false → commanded f ≡ None
asks_none f a b c = cond-false (is_command 0x01 2 f) _ _ a ∙ (cond-false (is_command 0x02 2 f) _ _ b ∙ cond-false (is_command 0x03 5 f) _ _ c)

no_time : (t : ℕ) → t ≡ 0 → start_action t ≡ None
no_time t e = cond-true (eqb t 0) _ _ (eq-eqb t 0 e)

some_time : (t : ℕ) → 0 < t → t < 0xFFFFFF → start_action t ≡ Some (Start t)
some_time t p l = cond-false (eqb t 0) _ _ (ne_eqb t 0 (λ z. omega arith)) ∙ cond-false (eqb t 0xFFFFFF) _ _ (ne_eqb t 0xFFFFFF (λ z. omega arith))

no_end : (t : ℕ) → t ≡ 0xFFFFFF → start_action t ≡ Some Set
no_end t e = cond-false (eqb t 0) _ _ (ne_eqb t 0 (λ z. omega arith)) ∙ cond-true (eqb t 0xFFFFFF) _ _ (eq-eqb t 0xFFFFFF e)

pub unnamed_kept : (a : Option Action) (x : Contact) → carried a false x ≡ x
unnamed_kept None x = refl
unnamed_kept (Some a) x = refl

pub commands_obeyed : EveryRelay CommandsObeyed
commands_obeyed s =
    record {
      opens = λ own r f c e h. commanded_channel s own r f c e ∙ ((λ i. carried (asks_clear f h.0 i) (h.1 i) (of_channel c (contacts r))));
      closes = λ own r f c e h. commanded_channel s own r f c e ∙ ((λ i. carried (asks_set f h.0 i) (h.1 i) (of_channel c (contacts r))));
      starts = λ own r f c e h.
          let within : max 1 (min (seconds f) 0xFFFFFE) ≡ seconds f = omega (arith, h.1, h.2) in
          commanded_channel s own r f c e
          ∙ ((λ i. carried ((asks_start f h.0.0 ∙ some_time (seconds f) h.1 h.2) i) (h.0.1 i) (of_channel c (contacts r))) ∙ ap running within);
      starts_none = λ own r f c e h.
          commanded_channel s own r f c e
          ∙ (λ i. carried ((asks_start f h.0.0 ∙ no_time (seconds f) h.1) i) (h.0.1 i) (of_channel c (contacts r)));
      closes_for_good = λ own r f c e h.
          commanded_channel s own r f c e
          ∙ (λ i. carried ((asks_start f h.0.0 ∙ no_end (seconds f) h.1) i) (h.0.1 i) (of_channel c (contacts r)));
      unnamed = λ own r f c e h.
          commanded_channel s own r f c e
          ∙ (ap (λ b. carried (commanded f) b (of_channel c (contacts r))) h ∙ unnamed_kept (commanded f) (of_channel c (contacts r)));
      others = λ own r f c e h.
          commanded_channel s own r f c e ∙ ap (λ a. carried a (is_named f c) (of_channel c (contacts r))) (asks_none f h.0 h.1 h.2);
      elsewhere = λ own r f away quiet. ap (λ o. contacts o.after) (unheard own r f away quiet);
    }
  where
    unheard : (own : ℕ) (r : Record) (f : Frame) → (f.address ≡ own → ⊥) → from_link (relay_kind s) own r f ≡ false → (relay_kind s).acts own r (Heard f) ≡ idle r
    unheard own r f away quiet =
        cond-false (eqb f.address own) _ _ (ne_eqb f.address own away)
        ∙ cond_both (eqb f.address 0) (idle r) (cond (from_link (relay_kind s) own r f) ((relay_design s).status own r f) (idle r)) (λ o. o ≡ idle r)
        (λ _. refl) (λ _. cond-false (from_link (relay_kind s) own r f) _ _ quiet)
