-- Holds end in time. Assumes nothing.
use Rattle.std.proofs.Common.{◌≡◌, ℕ, suc, ◌-◌, ◌<◌, ◌≤◌, true, Bool, false, cond, not, ◌||◌, eqb, ltb, leb, List, [], ◌∷◌, is_some, Some, None, Option, sym, refl, ap, ◌∙◌, subst, inl, inr, arith}
use lib.Bits.{bit_and}
use Rattle.std.proofs.lemmas.Bool.{false≢true, cond-true, cond-false, cond_both, and_parts, eqb-true, eq-eqb, ne_eqb, ltb-true, cases_eq}
use Rattle.bus.specs.declared.frame.Frame.{Frame}
use Rattle.bus.specs.Frames.{byte, seconds_in, is_command}
use Rattle.bus.proofs.Commands.{other_command}
use Rattle.station.specs.declared.event.Event.{Event}
use Rattle.station.specs.declared.event.Event.TheVariants.{Heard, Second, Pushed}
use Rattle.station.specs.Kinds.{Record, Outcome, from_link}
use Rattle.station.specs.Rules.{later}
use Rattle.module.specs.Pushes.{pressed_after, push_sent}
use Rattle.module.proofs.Answered.{at_own, at_link}
use Rattle.timing.specs.declared.locking.Locking.{Locking}
use Rattle.timing.specs.declared.locking.Locking.TheVariants.{Lock, Toggle, Unlock}
use Rattle.timing.specs.Holds.{locked, hold_for, obeyed, ticked}
use Rattle.timing.specs.TimeCodes.{stretches, by_stretch, seconds_of_code, hold_of_code}
use Rattle.interface.specs.declared.variant.Variant.{Variant}
use Rattle.interface.specs.declared.setup.InterfaceSetup.{InterfaceSetup}
use Rattle.interface.specs.Channels.{hold_on, held_after}
use Rattle.interface.specs.Links.{link_byte, matches, lock_for, toggle_for, asked, by_records}
use Rattle.interface.specs.Interfaces.{commanded, after_command, after_broadcast, after_status, after_second, after_push, design}
use Rattle.interface.specs.States.{State, encoded, decoded}
use Rattle.button_laws.specs.Holding.{names, AsksNothing, NoneAsks, Held, HoldEnds, HoldStays, LockSetsTheHold, LockEnds, UnlockFrees, InOrder, ActsAlone, ActsLast, RecordsActInOrder, SingleRecordObeyed, LinkedLockEnds, LinkedUnlockFrees, LockedIgnoresPushes, SilentWhileHeld, RestKept, PushesKeepTheRest}
use Rattle.button_laws.specs.Interfaces.{interface_kind, EveryInterface, hold, seconds}
use Rattle.interface.proofs.Decoded.{told}
use Rattle.button_laws.proofs.Eight.{length-held_after, length-ticked, ticked_at, held_after_keeps, named_obeys, length-by_records}
use Rattle.button_laws.proofs.Records.{in_order, where_none_acts, where_last_acts, where_one_acts}

-- what an event makes of a hold that it asks nothing of
abbrev moved : Event → ℕ → ℕ
moved (Heard f) h = h
moved Second h = ticked h
moved (Pushed p) h = h

module _ (v : Variant) (s : InterfaceSetup) (own : ℕ) (channel : ℕ) (low : 1 ≤ channel) (high : channel ≤ 8) where
  -- the hold on the channel as a state with eight holds tells it
  at : (x : State) → decoded (encoded x) ≡ x → hold_on (decoded (encoded x)).holds channel ≡ hold_on x.holds channel
  at x e = ap (λ y. hold_on y.holds channel) e

  pub hold_moves : (r : Record) (e : Event) → AsksNothing v (interface_kind v s) own r channel e → hold ((interface_kind v s).acts own r e).after channel ≡ moved e (hold r channel)
  hold_moves r (Heard f) none =
      let x = decoded r.state in
      let Same : Outcome → Type 0 = λ o. hold o.after channel ≡ hold r channel in
      cond_both (eqb f.address own) _ _ Same
      (λ e. at (after_command v x f) (told (after_command v x f) (length-held_after (commanded f) (bit_and (byte f 1) v.channels) x.holds))
      ∙ held_after_keeps channel low high (commanded f) (bit_and (byte f 1) v.channels) x.holds (none.0 (eqb-true _ _ e)))
      (λ _. cond_both (eqb f.address 0) _ _ Same
      (λ _. at (after_broadcast x f) (told (after_broadcast x f) refl))
      (λ _. cond_both (from_link (interface_kind v s) own r f) _ _ Same
      (λ e. at (after_status v r.cells x f) (told (after_status v r.cells x f) (length-by_records v.channels r.cells f x.holds))
      ∙ where_none_acts v r.cells f channel low high (hold r channel) (hold_on (by_records v.channels r.cells f x.holds) channel) (in_order v r.cells f channel low high x.holds refl) (none.1 e))
      (λ _. refl)))
  hold_moves r Second none =
      let x = decoded r.state in
      at (after_second x) (told (after_second x) (length-ticked x.holds)) ∙ ticked_at x.holds (channel - 1)
  hold_moves r (Pushed p) none =
      let x = decoded r.state in
      cond_both (eqb p.address own) _ _ (λ (o : Outcome). hold o.after channel ≡ hold r channel)
      (λ _. at (after_push v x p.channel p.edge) (told (after_push v x p.channel p.edge) refl)) (λ _. refl)

  -- a second takes one off, and nothing off none
  one_less : (h : ℕ) → h < 0xFFFFFF → ticked h ≡ h - 1
  one_less h l =
      elim (cases_eq h 0) [
        | inl e ↦ cond_both (eqb h 0 || eqb h 0xFFFFFF) h (h - 1) (λ t. t ≡ h - 1) (λ _. omega arith) (λ _. refl)
        | inr n ↦ cond-false (eqb h 0 || eqb h 0xFFFFFF) h (h - 1) ((λ i. ne_eqb h 0 n i || ne_eqb h 0xFFFFFF (λ q. omega arith) i))
      ]

  ends : (es : List Event) (r : Record) (h : ℕ) → hold r channel ≡ h → h < 0xFFFFFF → NoneAsks v (interface_kind v s) own r channel es → Held h (seconds es) (hold (later (interface_kind v s) own r es) channel)
  ends [] r h e l none = record { before = λ b. omega arith; over = λ b. omega arith }
  ends (Heard f ∷ es) r h e l none = ends es ((interface_kind v s).acts own r (Heard f)).after h (hold_moves r (Heard f) none.0 ∙ e) l none.1
  ends (Second ∷ es) r h e l none =
      let rest = ends es ((interface_kind v s).acts own r Second).after (h - 1) (hold_moves r Second none.0 ∙ (ap ticked e ∙ one_less h l)) (omega arith) none.1 in
      let left : h - 1 - seconds es ≡ h - suc (seconds es) = omega arith in
      record { before = λ b. rest.before (omega arith) ∙ left; over = λ b. rest.over (omega arith) }
  ends (Pushed p ∷ es) r h e l none = ends es ((interface_kind v s).acts own r (Pushed p)).after h (hold_moves r (Pushed p) none.0 ∙ e) l none.1

  stays : (es : List Event) (r : Record) → hold r channel ≡ 0xFFFFFF → NoneAsks v (interface_kind v s) own r channel es → hold (later (interface_kind v s) own r es) channel ≡ 0xFFFFFF
  stays [] r e none = e
  stays (Heard f ∷ es) r e none = stays es ((interface_kind v s).acts own r (Heard f)).after (hold_moves r (Heard f) none.0 ∙ e) none.1
  stays (Second ∷ es) r e none = stays es ((interface_kind v s).acts own r Second).after (hold_moves r Second none.0 ∙ ap ticked e) none.1
  stays (Pushed p ∷ es) r e none = stays es ((interface_kind v s).acts own r (Pushed p)).after (hold_moves r (Pushed p) none.0 ∙ e) none.1

pub hold_ends : EveryInterface HoldEnds
hold_ends v s own r channel es low high l none = ends v s own channel low high es r (hold r channel) refl l none

pub hold_stays : EveryInterface HoldStays
hold_stays v s own r channel es low high e none = stays v s own channel low high es r e none

-- what a command at the own address makes of a channel that it names
commanded_to : (v : Variant) (s : InterfaceSetup) (own : ℕ) (r : Record) (f : Frame) (channel : ℕ) → 1 ≤ channel → channel ≤ 8 → f.address ≡ own → names v f channel ≡ true →
    (l : Locking) → commanded f ≡ Some l → hold ((interface_kind v s).acts own r (Heard f)).after channel ≡ obeyed l (hold r channel)
commanded_to v s own r f channel low high e named l asks =
    let x = decoded r.state in
    let bits = bit_and (byte f 1) v.channels in
    ap (λ o. hold o.after channel) (at_own (design v s) own r f e)
    ∙ (ap (λ y. hold_on y.holds channel) (told (after_command v x f) (length-held_after (commanded f) bits x.holds))
    ∙ (ap (λ t. hold_on (held_after t bits x.holds) channel) asks ∙ named_obeys channel low high l bits x.holds refl named))

pub lock_sets_the_hold : EveryInterface LockSetsTheHold
lock_sets_the_hold v s own r f channel low high e w named some most =
    let asks : commanded f ≡ Some (Lock (seconds_in f)) =
    cond-true (is_command 0x12 5 f) _ _ w ∙ cond-false (eqb (seconds_in f) 0) _ _ (ne_eqb (seconds_in f) 0 (λ q. omega arith)) in
    let short : hold_for (seconds_in f) ≡ seconds_in f = omega arith in
    commanded_to v s own r f channel low high e named (Lock (seconds_in f)) asks ∙ short

pub lock_ends : EveryInterface LockEnds
lock_ends v s own r f channel es low high e w named some less none =
    let locks = lock_sets_the_hold v s own r f channel low high e w named some (omega arith) in
    ends v s own channel low high es ((interface_kind v s).acts own r (Heard f)).after (seconds_in f) locks less none

pub unlock_frees : EveryInterface UnlockFrees
unlock_frees v s own r f channel low high e w named =
    let asks : commanded f ≡ Some Unlock =
    cond-false (is_command 0x12 5 f) _ _ (other_command 0x13 2 f w 0x12 5 refl) ∙ cond-true (is_command 0x13 2 f) _ _ w in
    commanded_to v s own r f channel low high e named Unlock asks

pub records_act_in_order : EveryInterface RecordsActInOrder
records_act_in_order v s own r f channel low high linked =
    let x = decoded r.state in
    let after : hold ((interface_kind v s).acts own r (Heard f)).after channel ≡ hold_on (by_records v.channels r.cells f x.holds) channel =
    ap (λ o. hold o.after channel) (at_link (design v s) own r f linked)
    ∙ ap (λ y. hold_on y.holds channel) (told (after_status v r.cells x f) (length-by_records v.channels r.cells f x.holds)) in
    subst (InOrder v r.cells f channel (hold r channel)) (sym after) (in_order v r.cells f channel low high x.holds refl)

pub single_record_obeyed : EveryInterface SingleRecordObeyed
single_record_obeyed v s own r f channel k l low high linked only asks =
    where_one_acts v r.cells f channel low high (hold r channel) (hold ((interface_kind v s).acts own r (Heard f)).after channel)
    (records_act_in_order v s own r f channel low high linked) k l only asks

-- the time of a code, where it has one
abbrev time_of : Option ℕ → ℕ
time_of (Some t) = t
time_of None = 0

-- no code is as long as a hold without end
pub short : (code n : ℕ) → seconds_of_code code ≡ Some n → n < 0xFFFFFF
short code n e = subst (λ t. t < 0xFFFFFF) (ap time_of e) (bound (ltb code 252) refl)
  where
    none : 0 < 0xFFFFFF
    none = omega arith

    bound : (b : Bool) → ltb code 252 ≡ b → time_of (cond b (Some (by_stretch stretches code)) None) < 0xFFFFFF
    bound false e = none
    bound true e =
        let small = ltb-true code 252 e in
        let Small : ℕ → Type 0 = λ t. t < 0xFFFFFF in
        cond_both (leb 238 code) _ _ Small (λ _. omega (arith, small))
        (λ _. cond_both (leb 228 code) _ _ Small (λ _. omega (arith, small))
        (λ _. cond_both (leb 212 code) _ _ Small (λ _. omega (arith, small))
        (λ _. cond_both (leb 182 code) _ _ Small (λ _. omega (arith, small))
        (λ _. cond_both (leb 132 code) _ _ Small (λ _. omega (arith, small))
        (λ _. cond_both (leb 120 code) _ _ Small (λ _. omega (arith, small))
        (λ _. cond_both (leb 0 code) _ _ Small (λ _. omega (arith, small)) (λ _. omega arith)))))))

-- what the last record that acts makes of the hold, where that does not depend on the one that it finds
obeys_last : (v : Variant) (s : InterfaceSetup) (own : ℕ) (r : Record) (f : Frame) (channel k n : ℕ) (l : Locking) → 1 ≤ channel → channel ≤ 8 → from_link (interface_kind v s) own r f ≡ true →
    ActsLast v r.cells f channel k → asked (link_byte r.cells k 2) (link_byte r.cells k 3) ≡ Some l → ((h : ℕ) → obeyed l h ≡ n) → hold ((interface_kind v s).acts own r (Heard f)).after channel ≡ n
obeys_last v s own r f channel k n l low high linked only asks same =
    let x = records_act_in_order v s own r f channel low high linked in
    where_last_acts v r.cells f channel low high (hold r channel) (hold ((interface_kind v s).acts own r (Heard f)).after channel) x k l only asks ∙ same (x.before k)

pub linked_lock_ends : EveryInterface LinkedLockEnds
linked_lock_ends v s own r f channel k n es low high linked locks some e none =
    let code = link_byte r.cells k 3 in
    let less = short code n e in
    let full : hold_for n ≡ n = omega arith in
    let timed : hold_of_code code ≡ Some n = cond-false (eqb code 0) _ _ (ne_eqb code 0 (λ z. omega arith)) ∙ e in
    let set : hold ((interface_kind v s).acts own r (Heard f)).after channel ≡ n =
    elim locks [
      | inl three ↦ obeys_last v s own r f channel k n (Lock n) low high linked three.1 (ap (λ a. asked a code) three.0 ∙ ap lock_for timed) (λ h. full)
      | inr four ↦
          single_record_obeyed v s own r f channel k (Toggle n) low high linked four.1.1 (ap (λ a. asked a code) four.0 ∙ ap toggle_for timed)
          ∙ (ap (λ h. obeyed (Toggle n) h) four.1.0 ∙ full)
    ] in
    ends v s own channel low high es ((interface_kind v s).acts own r (Heard f)).after n set less none

pub linked_unlock_frees : EveryInterface LinkedUnlockFrees
linked_unlock_frees v s own r f channel k low high linked frees =
    let code = link_byte r.cells k 3 in
    elim frees [
      | inl five ↦ obeys_last v s own r f channel k 0 Unlock low high linked five.1 (ap (λ a. asked a code) five.0) (λ h. refl)
      | inr four ↦
          let only = four.1.1 in
          let asking = and_parts (is_some (asked (link_byte r.cells k 2) code)) _ (and_parts (matches r.cells f k) _ only.acts).1 in
          toggled four.0 four.1.0 only (hold_of_code code) refl (ap (λ a. is_some (asked a code)) (sym four.0) ∙ asking.0)
    ]
  where
    toggled : link_byte r.cells k 2 ≡ 4 → 0 < hold r channel → ActsAlone v r.cells f channel k → (t : Option ℕ) → hold_of_code (link_byte r.cells k 3) ≡ t → is_some (asked 4 (link_byte r.cells k 3)) ≡ true → hold ((interface_kind v s).acts own r (Heard f)).after channel ≡ 0
    toggled four some only None e asks = absurd (false≢true (ap (λ o. is_some (toggle_for o)) (sym e) ∙ asks))
    toggled four some only (Some t) e asks =
        let shut : locked (hold r channel) ≡ true = ap not (ne_eqb (hold r channel) 0 (λ z. omega arith)) in
        single_record_obeyed v s own r f channel k (Toggle t) low high linked only (ap (λ a. asked a (link_byte r.cells k 3)) four ∙ ap toggle_for e) ∙ cond-true (locked (hold r channel)) 0 _ shut

pub locked_ignores_pushes : EveryInterface LockedIgnoresPushes
locked_ignores_pushes v s own r p e =
    let x = decoded r.state in
    let same : after_push v x p.channel p.edge ≡ x =
    λ i. record { lamps = x.lamps; pressed = cond-true (locked (hold r p.channel)) x.pressed (pressed_after v.buttons x.pressed p.channel p.edge) e i; holds = x.holds; clock = x.clock } in
    cond_both (eqb p.address own) _ _ (λ (o : Outcome). (decoded o.after.state ≡ x) × (o.sent ≡ []))
    (λ _. (told (after_push v x p.channel p.edge) refl ∙ same, cond-true (locked (hold r p.channel)) _ _ e)) (λ _. (refl, refl))

pub silent_while_held : EveryInterface SilentWhileHeld
silent_while_held v s own r p es low high e less none =
    let now = later (interface_kind v s) own r es in
    let held = hold_ends v s own r p.channel es low high less none in
    let works = push_sent own v.buttons (decoded now.state).pressed p.channel p.edge in (
      λ before.
          let left = held.before before in
          (locked_ignores_pushes v s own now p (ap not (ne_eqb (hold now p.channel) 0 (λ z. omega (arith, left, before))))).1,
      λ over. ap (λ (o : Outcome). o.sent) (cond-true (eqb p.address own) _ _ (eq-eqb _ _ e)) ∙ cond-false (locked (hold now p.channel)) [] works (ap locked (held.over over)),
    )

pub pushes_keep_the_rest : EveryInterface PushesKeepTheRest
pushes_keep_the_rest v s own r p =
    let x = decoded r.state in
    let y = after_push v x p.channel p.edge in
    cond_both (eqb p.address own) _ _ (λ (o : Outcome). RestKept x (decoded o.after.state))
    (λ _. subst (RestKept x) (sym (told y refl)) (record { lamps = refl; holds = refl; clock = refl }))
    (λ _. record { lamps = refl; holds = refl; clock = refl })
