-- What a button interface answers to those who ask for its status, its type and the time, and when it sends nothing. Assumes nothing.
use Rattle.std.proofs.Common.{◌≡◌, ℕ, ◌+◌, Bool, true, false, cond, not, ◌&&◌, ◌||◌, eqb, [], ◌∷◌, ◌++◌, refl, ap, ◌∙◌}
use Rattle.std.proofs.lemmas.Bool.{cond-true, cond-false, cond_both, and_from, or_parts, or_from, eqb-true, eq-eqb, ne_eqb}
use Rattle.bus.specs.declared.frame.Frame.{Frame}
use Rattle.bus.specs.Frames.{is_command, message}
use Rattle.bus.proofs.Commands.{other_command}
use Rattle.station.specs.declared.event.Event.TheVariants.{Heard, Second, Pushed}
use Rattle.station.specs.Kinds.{Record, Outcome, from_link}
use Rattle.module.specs.Memories.{memory_sent}
use Rattle.module.proofs.Answered.{at_own}
use Rattle.interface.specs.declared.setup.InterfaceSetup.{InterfaceSetup}
use Rattle.interface.specs.Channels.{locked_bits}
use Rattle.interface.specs.Interfaces.{status_sent, type_sent, clock_sent, command_sent}
use Rattle.interface.specs.States.{decoded}
use Rattle.buttons.specs.Buttons.{variant}
use Rattle.buttons.specs.Buttons.{design as buttons_design}
use Rattle.kinds.specs.Kinds.{buttons_kind, EveryButtonInterface}
use Rattle.button_laws.proofs.Clocks.{clock_is_told}
use Rattle.button_laws.proofs.Replies.{no_memory, no_type, type_is_told}
use Rattle.module_laws.specs.InterfaceStates.{hold, pressed_bits}
use Rattle.module_laws.specs.InterfaceReplies.{held_channels, StatusTold, TypeTold, TimeTold, asks_for_reply, SilentElse}

turned : (b : Bool) (n : ℕ) → cond (not b) n 0 ≡ cond b 0 n
turned true n = refl
turned false n = refl

last : (b : Bool) → cond (not b) 128 0 + 0 ≡ cond b 0 128
last true = refl
last false = refl

held : (r : Record) → locked_bits 1 (decoded r.state).holds ≡ held_channels r
held r =
    λ i. turned (eqb (hold r 1) 0) 1 i
    + (turned (eqb (hold r 2) 0) 2 i
    + (turned (eqb (hold r 3) 0) 4 i
    + (turned (eqb (hold r 4) 0) 8 i + (turned (eqb (hold r 5) 0) 16 i + (turned (eqb (hold r 6) 0) 32 i + (turned (eqb (hold r 7) 0) 64 i + last (eqb (hold r 8) 0) i))))))

pub status_told : EveryButtonInterface StatusTold
status_told s own r f e w =
    let x = decoded r.state in
    let status = message 3 own (0xED ∷ x.pressed ∷ 0xFF ∷ 0xFF ∷ locked_bits 1 x.holds ∷ 0 ∷ 0 ∷ []) ∷ [] in
    let told : status_sent own x f ≡ status = cond-true (is_command 0xFA 2 f) _ _ w in
    let no_clock : clock_sent own x.clock f ≡ [] = cond-false (is_command 0xD7 1 f) _ _ (other_command 0xFA 2 f w 0xD7 1 refl) in
    ap (λ (o : Outcome). o.sent) (at_own (buttons_design s) own r f e)
    ∙ ((λ i. no_memory own 0xFA 2 f w refl refl refl r.cells i ++ (told i ++ (no_type own 0xFA 2 f w variant s i ++ no_clock i)))
    ∙ (λ i. message 3 own (0xED ∷ pressed_bits r ∷ 0xFF ∷ 0xFF ∷ held r i ∷ 0 ∷ 0 ∷ []) ∷ []))

pub type_told : TypeTold
type_told s own r f e rtr count = type_is_told variant s own r f e (and_from (eqb f.rtr 1) (eqb f.count 0) (eq-eqb f.rtr 1 rtr) (eq-eqb f.count 0 count))

pub time_told : EveryButtonInterface TimeTold
time_told s own r f to w = clock_is_told variant s own r f to w

-- what asks for no reply gets none
module _ (s : InterfaceSetup) (own : ℕ) (r : Record) (f : Frame) (none : asks_for_reply f ≡ false) where
  unanswered : command_sent variant s own r.cells (decoded r.state) f ≡ []
  unanswered =
      let a = or_parts (eqb f.rtr 1 && eqb f.count 0) _ none in
      let b = or_parts (is_command 0xFA 2 f) _ a.1 in
      let c = or_parts (is_command 0xFD 3 f) _ b.1 in
      let d = or_parts (is_command 0xC9 3 f) _ c.1 in
      let e = or_parts (is_command 0xCA 7 f) (is_command 0xD7 1 f) d.1 in
      let no_cells : memory_sent own r.cells f ≡ [] =
      cond-false (is_command 0xFD 3 f) _ _ c.0 ∙ cond-false (is_command 0xC9 3 f || is_command 0xCA 7 f) _ _ (or_from (is_command 0xC9 3 f) (is_command 0xCA 7 f) d.0 e.0) in
      let no_status : status_sent own (decoded r.state) f ≡ [] = cond-false (is_command 0xFA 2 f) _ _ b.0 in
      let no_request : type_sent variant s own f ≡ [] = cond-false (eqb f.rtr 1 && eqb f.count 0) _ _ a.0 in
      let no_clock : clock_sent own (decoded r.state).clock f ≡ [] = cond-false (is_command 0xD7 1 f) _ _ e.1 in
      λ i. no_cells i ++ (no_status i ++ (no_request i ++ no_clock i))

pub silent_else : EveryButtonInterface SilentElse
silent_else s own r (Heard f) h =
    let Silent : Outcome → Type 0 = λ o. o.sent ≡ [] in
    cond_both (eqb f.address own) _ _ Silent (λ here. unanswered s own r f (h.0 (eqb-true f.address own here)))
    (λ _. cond_both (eqb f.address 0) _ _ Silent (λ all. cond-false (is_command 0xD7 1 f) _ _ (h.1 (eqb-true f.address 0 all)))
    (λ _. cond_both (from_link (buttons_kind s) own r f) _ _ Silent (λ _. refl) (λ _. refl)))
silent_else s own r Second h = refl
silent_else s own r (Pushed p) h = ap (λ (o : Outcome). o.sent) (cond-false (eqb p.address own) _ _ (ne_eqb p.address own h))
