-- What alone changes the holds, the pressed buttons, the lamps and the clock of a button interface. Assumes nothing.
use Rattle.std.proofs.Common.{◌≡◌, ℕ, zero, suc, ◌+◌, ◌-◌, ◌<◌, ◌≤◌, Bool, true, false, cond, ◌&&◌, ◌||◌, eqb, ltb, List, get_or, is_some, Some, None, Option, sym, refl, ap, ◌∙◌, inl, inr, arith}
use lib.Bits.{bit_and}
use Rattle.std.proofs.lemmas.Bool.{cases_Bool, and_left, and_right, cond-false, cond_both, ne_eqb, eqb-true, lt-ltb}
use Rattle.std.proofs.Math.Bool.{and_comm}
use Rattle.bus.specs.declared.frame.Frame.{Frame}
use Rattle.bus.specs.Frames.{byte, is_command, seconds_in}
use Rattle.station.specs.declared.event.Event.{Event}
use Rattle.station.specs.declared.event.Event.TheVariants.{Heard, Second, Pushed}
use Rattle.station.specs.Kinds.{Record, Outcome, from_link}
use Rattle.module.specs.Bits.{has_bit}
use Rattle.module.specs.Pushes.{bit}
use Rattle.module.specs.declared.lamps.Lamps.{Lamps}
use Rattle.timing.specs.declared.locking.Locking.TheVariants.{Lock, Unlock}
use Rattle.timing.specs.Holds.{ticked}
use Rattle.timing.specs.TimeCodes.{hold_of_code}
use Rattle.interface.specs.declared.setup.InterfaceSetup.{InterfaceSetup}
use Rattle.interface.specs.Interfaces.{commanded}
use Rattle.interface.specs.Links.{link_byte, lock_for, toggle_for, asked}
use Rattle.buttons.specs.Buttons.{variant}
use Rattle.buttons.specs.Buttons.{design as buttons_design}
use Rattle.kinds.specs.Kinds.{buttons_kind, EveryButtonInterface}
use Rattle.interface.specs.States.{decoded}
use Rattle.button_laws.specs.Clocks.{sets}
use Rattle.button_laws.proofs.Clocks.{time_moves, unset}
use Rattle.button_laws.specs.Interfaces.{time}
use Rattle.button_laws.specs.Interfaces.{hold as decoded_hold}
use Rattle.button_laws.specs.Holding.{AsksNothing, commands, record_acts}
use Rattle.button_laws.proofs.Holding.{hold_moves}
use Rattle.module_laws.specs.InterfaceStates.{names_channel}
use Rattle.module_laws.specs.LampCommands.{AsksNoLamp, LampsKept}
use Rattle.module_laws.proofs.LampCommands.{lamps_same, below_three}
use Rattle.module_laws.specs.InterfaceKeeps.{record_asks, AsksNoHold, HoldsKept, PressedKept, NoTimeSet, ClockKept}
use Rattle.module_laws.proofs.InterfaceStates.{same_hold, same_bit}

-- what is a lock or an unlock
is_asked : (f : Frame) → is_some (commanded f) ≡ true → (is_command 0x12 5 f || is_command 0x13 2 f) ≡ true
is_asked f e = by (is_command 0x12 5 f) (is_command 0x13 2 f) (eqb (seconds_in f) 0) e
  where
    by : (a b z : Bool) → is_some (cond a (cond z None (Some (Lock (seconds_in f)))) (cond b (Some Unlock) None)) ≡ true → (a || b) ≡ true
    by true b z e = refl
    by false true z e = refl
    by false false z e = e

nothing_commanded : (f : Frame) (channel : ℕ) → 1 ≤ channel → channel ≤ 8 → ((is_command 0x12 5 f || is_command 0x13 2 f) && names_channel (byte f 1) channel) ≡ false → commands variant f channel ≡ false
nothing_commanded f channel low high h =
    by (is_some (commanded f)) (is_command 0x12 5 f || is_command 0x13 2 f) (is_asked f) (names_channel (byte f 1) channel) (has_bit (bit_and (byte f 1) 0xFF) (bit channel)) (same_bit (byte f 1) channel low high) h
  where
    by : (asks is : Bool) → (asks ≡ true → is ≡ true) → (n m : Bool) → m ≡ n → (is && n) ≡ false → (asks && m) ≡ false
    by false is imp n m e h = refl
    by true is imp n m e h = e ∙ (ap (λ b. b && n) (sym (imp refl)) ∙ h)

-- a code that has a time
timed : (code : ℕ) → is_some (hold_of_code code) ≡ ltb code 252
timed code =
    cond_both (eqb code 0) _ _ (λ t. is_some t ≡ ltb code 252)
    (λ e. let z : code ≡ 0 = eqb-true code 0 e in sym (lt-ltb code 252 (omega arith)))
    (λ _. by (ltb code 252) _)
  where
    by : (b : Bool) (n : ℕ) → is_some (cond b (Some n) None) ≡ b
    by true n = refl
    by false n = refl

asking : (action code : ℕ) → is_some (asked action code) ≡ cond (eqb action 3 || eqb action 4) (ltb code 252) (eqb action 5)
asking action code = by (eqb action 3) (eqb action 4) (eqb action 5) (hold_of_code code) ∙ ap (λ t. cond (eqb action 3 || eqb action 4) t (eqb action 5)) (timed code)
  where
    by : (x y z : Bool) (o : Option ℕ) → is_some (cond x (lock_for o) (cond y (toggle_for o) (cond z (Some Unlock) None))) ≡ cond (x || y) (is_some o) z
    by true y z None = refl
    by true y z (Some t) = refl
    by false true z None = refl
    by false true z (Some t) = refl
    by false false true o = refl
    by false false false o = refl

-- three tests in another order
reordered : (a s n : Bool) → (a && (s && n)) ≡ ((a && n) && s)
reordered true s n = and_comm s n
reordered false s n = refl

acts_same : (cells : List ℕ) (f : Frame) (channel k : ℕ) → 1 ≤ channel → channel ≤ 8 → record_acts variant cells f channel k ≡ record_asks cells f channel k
acts_same cells f channel k low high =
    let sent : Bool = eqb (link_byte cells k 0) f.address && has_bit (link_byte cells k 1) (byte f 1) in
    (λ i. sent && (asking (link_byte cells k 2) (link_byte cells k 3) i && same_bit (link_byte cells k 4) channel low high i))
    ∙ reordered sent (cond (eqb (link_byte cells k 2) 3 || eqb (link_byte cells k 2) 4) (ltb (link_byte cells k 3) 252) (eqb (link_byte cells k 2) 5)) (names_channel (link_byte cells k 4) channel)

asks_nothing : (s : InterfaceSetup) (own : ℕ) (r : Record) (channel : ℕ) → 1 ≤ channel → channel ≤ 8 → (e : Event) → AsksNoHold (buttons_kind s) own r channel e → AsksNothing variant (buttons_kind s) own r channel e
asks_nothing s own r channel low high (Heard f) h = ((λ at. nothing_commanded f channel low high (h.0 at)), (λ l k m. acts_same r.cells f channel k low high ∙ h.1 l k m))
asks_nothing s own r channel low high Second h = tt
asks_nothing s own r channel low high (Pushed p) h = tt

-- such an event moves the decoded hold only by a second
hold_stays : (s : InterfaceSetup) (own : ℕ) (r : Record) (channel : ℕ) → 1 ≤ channel → channel ≤ 8 → (e : Event) → AsksNoHold (buttons_kind s) own r channel e → decoded_hold ((buttons_kind s).acts own r e).after channel ≡ decoded_hold r channel
hold_stays s own r channel low high (Heard f) h = hold_moves variant s own channel low high r (Heard f) (asks_nothing s own r channel low high (Heard f) h)
hold_stays s own r channel low high Second h =
    let same = same_hold r channel low high in
    hold_moves variant s own channel low high r Second tt
    ∙ elim h [ inl none ↦ (let z = sym same ∙ none in ap ticked z ∙ sym z) | inr ever ↦ (let z = sym same ∙ ever in ap ticked z ∙ sym z) ]
hold_stays s own r channel low high (Pushed p) h = hold_moves variant s own channel low high r (Pushed p) tt

pub holds_kept : EveryButtonInterface HoldsKept
holds_kept s own r channel e low high h =
    same_hold ((buttons_kind s).acts own r e).after channel low high ∙ (hold_stays s own r channel low high e h ∙ sym (same_hold r channel low high))

pub pressed_kept : EveryButtonInterface PressedKept
pressed_kept s own r (Heard f) h =
    let d = buttons_design s in
    let linking : Bool = from_link (buttons_kind s) own r f in
    let Same : Outcome → Type 0 = λ o. get_or o.after.state 3 0 ≡ get_or r.state 3 0 in
    cond_both (eqb f.address own) _ _ Same (λ _. refl) (λ _. cond_both (eqb f.address 0) _ _ Same (λ _. refl) (λ _. cond_both linking _ _ Same (λ _. refl) (λ _. refl)))
pressed_kept s own r Second h = refl
pressed_kept s own r (Pushed p) h = ap (λ (o : Outcome). get_or o.after.state 3 0) (cond-false (eqb p.address own) _ _ (ne_eqb p.address own h))

-- the lamps that the state bytes tell
abbrev lamps_of : Record → Lamps
lamps_of r = (decoded r.state).lamps

lamps_stay : (s : InterfaceSetup) (own : ℕ) (r : Record) (e : Event) → AsksNoLamp own e → lamps_of ((buttons_kind s).acts own r e).after ≡ lamps_of r
lamps_stay s own r (Heard f) h =
    let Same : Outcome → Type 0 = λ o. lamps_of o.after ≡ lamps_of r in
    cond_both (eqb f.address own) _ _ Same (λ here. lamps_same (lamps_of r) f (h (eqb-true f.address own here)))
    (λ _. cond_both (eqb f.address 0) _ _ Same (λ _. refl) (λ _. cond_both (from_link (buttons_kind s) own r f) _ _ Same (λ _. refl) (λ _. refl)))
lamps_stay s own r Second h = refl
lamps_stay s own r (Pushed p) h = cond_both (eqb p.address own) _ _ (λ (o : Outcome). lamps_of o.after ≡ lamps_of r) (λ _. refl) (λ _. refl)

pub lamps_kept : EveryButtonInterface LampsKept
lamps_kept s own r e i h l =
    let same = lamps_stay s own r e h in
    let q = ((buttons_kind s).acts own r e).after in
    below_three (λ n. get_or q.state n 0 ≡ get_or r.state n 0) (ap (λ x. x.on) same) (ap (λ x. x.slow) same) (ap (λ x. x.fast) same) i l

-- what does not set the clock leaves it
time_stays : (s : InterfaceSetup) (own : ℕ) (r : Record) (e : Event) → NoTimeSet e → time ((buttons_kind s).acts own r e).after ≡ time r
time_stays s own r (Heard f) h =
    let none : sets f ≡ false =
    elim (cases_Bool (eqb f.address 0)) [
      | inl all ↦ and_right (eqb f.address 0) _ (and_left (is_command 0xD8 4 f) _ (h (eqb-true f.address 0 all)))
      | inr other ↦ and_left (eqb f.address 0) _ other
    ] in
    time_moves variant s own r (Heard f) ∙ unset (time r) f none
time_stays s own r Second h = absurd h
time_stays s own r (Pushed p) h = time_moves variant s own r (Pushed p)

pub clock_kept : EveryButtonInterface ClockKept
clock_kept s own r e h i low high =
    let q = ((buttons_kind s).acts own r e).after in
    let same = time_stays s own r e h in
    let place : i ≡ 28 + (i - 28) = omega arith in
    ap (λ n. get_or q.state n 0) place ∙ (by q (i - 28) (omega arith) same ∙ ap (λ n. get_or r.state n 0) (sym place))
  where
    by : (q : Record) (j : ℕ) → j < 4 → time q ≡ time r → get_or q.state (28 + j) 0 ≡ get_or r.state (28 + j) 0
    by q zero l e = ap (λ x. x.day) e
    by q (suc zero) l e = ap (λ x. x.hour) e
    by q (suc (suc zero)) l e = ap (λ x. x.minute) e
    by q (suc (suc (suc zero))) l e = ap (λ x. x.second) e
    by q (suc (suc (suc (suc j)))) l e = absurd (omega arith)
