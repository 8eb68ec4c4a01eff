-- The clock shows real times and keeps time. Assumes nothing.
use Rattle.std.proofs.Common.{◌≡◌, ℕ, suc, ◌+◌, ◌%◌, ◌<◌, Bool, true, false, cond, ◌&&◌, eqb, ltb, List, [], ◌∷◌, ◌++◌, sym, refl, ap, ◌∙◌, subst, inl, inr, arith}
use lib.Bits.{bit_and}
use Rattle.std.specs.List.{AllByRecursion}
use Rattle.std.proofs.lemmas.Bool.{false≢true, both_ways, cond-true, cond-false, cond_both, and_parts, and_from, and_left, lt-ltb, ltb-true, eq-eqb, eqb-true, eqb-false, ne_eqb}
use Rattle.bus.specs.declared.frame.Frame.{Frame}
use Rattle.bus.specs.Frames.{byte, is_command, message}
use Rattle.bus.proofs.Commands.{other_command}
use Rattle.station.specs.declared.edge.Edge.{Edge}
use Rattle.station.specs.declared.edge.Edge.TheVariants.{Press, Release, LongPress}
use Rattle.station.specs.declared.event.Event.{Event}
use Rattle.station.specs.declared.event.Event.TheVariants.{Heard, Second, Pushed}
use Rattle.station.specs.Kinds.{Record, Outcome, from_link}
use Rattle.station.specs.Rules.{later}
use Rattle.module.specs.Pushes.{status_bytes}
use Rattle.timing.specs.Times.{Time, Real, real, set_to, next, a_second_later}
use Rattle.interface.specs.declared.variant.Variant.{Variant}
use Rattle.interface.specs.declared.setup.InterfaceSetup.{InterfaceSetup}
use Rattle.interface.specs.Interfaces.{commanded, clock_after, status_sent, clock_sent, command_sent, after_command, after_broadcast, after_status, after_second, after_push}
use Rattle.interface.specs.States.{State, encoded, decoded}
use Rattle.interface.proofs.Orderly.{Forms, all_clock, all_command, all_pushed}
use Rattle.button_laws.specs.Clocks.{NewClockIsReal, ClockStaysReal, TellsRealTime, EveryTimeShownIsReal, second_of_week, sets, ClockKeepsTime, ClockIsSet, SetOnlyForAll, ClockIsTold}
use Rattle.button_laws.specs.Interfaces.{interface_kind, EveryInterface, seconds, time}
use Rattle.interface.proofs.Decoded.{told}
use Rattle.button_laws.proofs.Replies.{no_memory, no_type}
use Rattle.button_laws.proofs.Eight.{length-held_after, length-ticked, length-by_records}

pub new_clock_is_real : NewClockIsReal
new_clock_is_real = record { day = omega arith; hour = omega arith; minute = omega arith; second = omega arith }

-- the time as a state with eight holds tells it
at : (x : State) → decoded (encoded x) ≡ x → (decoded (encoded x)).clock ≡ x.clock
at x e = ap (λ y. y.clock) e

-- what an event makes of the time
abbrev moved : Event → Time → Time
moved (Heard f) t = clock_after t f
moved Second t = a_second_later t
moved (Pushed p) t = t

-- a frame with another address than 0 leaves it
foreign : (t : Time) (f : Frame) → eqb f.address 0 ≡ false → clock_after t f ≡ t
foreign t f e = cond-false (eqb f.address 0 && is_command 0xD8 4 f) _ _ (and_left (eqb f.address 0) (is_command 0xD8 4 f) e)

pub time_moves : (v : Variant) (s : InterfaceSetup) (own : ℕ) (r : Record) (e : Event) → time ((interface_kind v s).acts own r e).after ≡ moved e (time r)
time_moves v s own r (Heard f) =
    let x = decoded r.state in
    let Is : Outcome → Type 0 = λ o. time o.after ≡ clock_after (time r) f in
    cond_both (eqb f.address own) _ _ Is
    (λ _. at (after_command v x f) (told (after_command v x f) (length-held_after (commanded f) (bit_and (byte f 1) v.channels) x.holds)))
    (λ _. cond_both (eqb f.address 0) _ _ Is
    (λ _. at (after_broadcast x f) (told (after_broadcast x f) refl))
    (λ other. cond_both (from_link (interface_kind v s) own r f) _ _ Is
    (λ _. at (after_status v r.cells x f) (told (after_status v r.cells x f) (length-by_records v.channels r.cells f x.holds)) ∙ sym (foreign (time r) f other))
    (λ _. sym (foreign (time r) f other))))
time_moves v s own r Second = let x = decoded r.state in at (after_second x) (told (after_second x) (length-ticked x.holds))
time_moves v s own r (Pushed p) =
    let x = decoded r.state in
    cond_both (eqb p.address own) _ _ (λ (o : Outcome). time o.after ≡ time r)
    (λ _. at (after_push v x p.channel p.edge) (told (after_push v x p.channel p.edge) refl)) (λ _. refl)

-- a part of the time stays in its range
next_within : (moves : Bool) (last n : ℕ) → n < suc last → next moves last n < suc last
next_within false last n h = h
next_within true last n h = cond_both (eqb n last) 0 (n + 1) (λ k. k < suc last) (λ _. omega arith) (λ e. let other = eqb-false n last e in omega (arith, other))

moved_real : (e : Event) (t : Time) → Real t → Real (moved e t)
moved_real (Heard f) t h =
    cond_both (eqb f.address 0 && is_command 0xD8 4 f) (set_to (byte f 1) (byte f 2) (byte f 3) t) t Real
    (λ _. cond_both (real (byte f 1) (byte f 2) (byte f 3)) _ t Real
    (λ e.
    let day = and_parts (ltb (byte f 1) 7) (ltb (byte f 2) 24 && ltb (byte f 3) 60) e in
    let hour = and_parts (ltb (byte f 2) 24) (ltb (byte f 3) 60) day.1 in
    record { day = ltb-true _ _ day.0; hour = ltb-true _ _ hour.0; minute = ltb-true _ _ hour.1; second = omega arith })
    (λ _. h))
    (λ _. h)
moved_real Second t h =
    let minute_ends = eqb t.second 59 in
    let hour_ends = minute_ends && eqb t.minute 59 in
    record {
      day = next_within (hour_ends && eqb t.hour 23) 6 t.day h.day;
      hour = next_within hour_ends 23 t.hour h.hour;
      minute = next_within minute_ends 59 t.minute h.minute;
      second = next_within true 59 t.second h.second;
    }
moved_real (Pushed p) t h = h

pub clock_stays_real : EveryInterface ClockStaysReal
clock_stays_real v s own r [] h = h
clock_stays_real v s own r (e ∷ es) h = clock_stays_real v s own ((interface_kind v s).acts own r e).after es (subst Real (sym (time_moves v s own r e)) (moved_real e (time r) h))

-- no other form of frame tells a time
forms : (own : ℕ) → Forms TellsRealTime own
forms own =
    record {
      cell = λ h l b e. absurd (false≢true e);
      block = λ h l a b c d e. absurd (false≢true e);
      status = λ a b e. absurd (false≢true e);
      type = λ code a b c d f e. absurd (false≢true e);
      button = λ edge b e. absurd (edges edge b e);
    }
  where
    edges : (edge : Edge) (b : ℕ) → is_command 0xD8 4 (message 0 own (status_bytes edge b)) ≡ true → ⊥
    edges Press b e = false≢true e
    edges Release b e = false≢true e
    edges LongPress b e = false≢true e

told_real : (own : ℕ) (t : Time) → Real t → TellsRealTime (message 3 own (0xD8 ∷ t.day ∷ t.hour ∷ t.minute ∷ []))
told_real own t h e =
    and_from (ltb t.day 7) (ltb t.hour 24 && ltb t.minute 60) (lt-ltb _ _ h.day) (and_from (ltb t.hour 24) (ltb t.minute 60) (lt-ltb _ _ h.hour) (lt-ltb _ _ h.minute))

shown_real : (v : Variant) (s : InterfaceSetup) (own : ℕ) (r : Record) (e : Event) → Real (time r) → AllByRecursion TellsRealTime ((interface_kind v s).acts own r e).sent
shown_real v s own r (Heard f) h =
    let x = decoded r.state in
    let Q : Outcome → Type 0 = λ o. AllByRecursion TellsRealTime o.sent in
    cond_both (eqb f.address own) _ _ Q (λ _. all_command TellsRealTime v s own (forms own) r.cells x f (told_real own x.clock h))
    (λ _. cond_both (eqb f.address 0) _ _ Q (λ _. all_clock TellsRealTime v s own (forms own) x.clock f (told_real own x.clock h))
    (λ _. cond_both (from_link (interface_kind v s) own r f) _ _ Q (λ _. tt) (λ _. tt)))
shown_real v s own r Second h = tt
shown_real v s own r (Pushed p) h =
    cond_both (eqb p.address own) _ _ (λ (o : Outcome). AllByRecursion TellsRealTime o.sent)
    (λ _. all_pushed TellsRealTime v s own (forms own) (decoded r.state) p.channel p.edge) (λ _. tt)

pub every_time_shown_is_real : EveryInterface EveryTimeShownIsReal
every_time_shown_is_real v s own r es e h = shown_real v s own (later (interface_kind v s) own r es) e (clock_stays_real v s own r es h)

pub set_only_for_all : EveryInterface SetOnlyForAll
set_only_for_all v s own r f h = time_moves v s own r (Heard f) ∙ foreign (time r) f (ne_eqb _ _ h)

-- a test whether a part of the time is at its last value tells so
abbrev Tells : Bool → ℕ → ℕ → Type 0
Tells true n last = n ≡ last
Tells false n last = n < last

tells : (b : Bool) (n last : ℕ) → b ≡ eqb n last → n < suc last → Tells b n last
tells true n last e h = eqb-true n last (sym e)
tells false n last e h = let other = eqb-false n last (sym e) in omega (arith, other)

one_more : (t : Time) → Real t → second_of_week (a_second_later t) ≡ (second_of_week t + 1) % 604800
one_more t h =
    by_cases (eqb t.second 59) (eqb t.minute 59) (eqb t.hour 23) (eqb t.day 6)
    (tells _ _ _ refl h.second) (tells _ _ _ refl h.minute) (tells _ _ _ refl h.hour) (tells _ _ _ refl h.day)
  where
    by_cases : (s m o d : Bool) → Tells s t.second 59 → Tells m t.minute 59 → Tells o t.hour 23 → Tells d t.day 6 →
        second_of_week (record { day = cond ((s && m) && o) (cond d 0 (t.day + 1)) t.day; hour = cond (s && m) (cond o 0 (t.hour + 1)) t.hour; minute = cond s (cond m 0 (t.minute + 1)) t.minute; second = cond s 0 (t.second + 1) })
        ≡ (second_of_week t + 1) % 604800
    by_cases false m o d p q u v = omega (arith, h.day, h.hour, h.minute)
    by_cases true false o d p q u v = omega (arith, h.day, h.hour)
    by_cases true true false d p q u v = omega (arith, h.day)
    by_cases true true true false p q u v = omega arith
    by_cases true true true true p q u v = omega arith

-- what does not set the clock leaves it
pub unset : (t : Time) (f : Frame) → sets f ≡ false → clock_after t f ≡ t
unset t f e =
    cond_both (eqb f.address 0 && is_command 0xD8 4 f) (set_to (byte f 1) (byte f 2) (byte f 3) t) t (λ k. k ≡ t)
    (λ asked. cond_both (real (byte f 1) (byte f 2) (byte f 3)) _ t (λ k. k ≡ t)
    (λ exists.
    let parts = and_parts (eqb f.address 0) (is_command 0xD8 4 f) asked in
    let all = and_from (eqb f.address 0) _ parts.0 (and_from (is_command 0xD8 4 f) (real (byte f 1) (byte f 2) (byte f 3)) parts.1 exists) in
    absurd (both_ways (sets f) e all))
    (λ _. refl))
    (λ _. refl)

pub clock_keeps_time : EveryInterface ClockKeepsTime
clock_keeps_time v s own r [] h none =
    let small : second_of_week (time r) < 604800 = omega (arith, h.day, h.hour, h.minute, h.second) in
    omega arith
clock_keeps_time v s own r (Heard f ∷ es) h none =
    let after = ((interface_kind v s).acts own r (Heard f)).after in
    let same : time after ≡ time r = time_moves v s own r (Heard f) ∙ unset (time r) f none.0 in
    clock_keeps_time v s own after es (clock_stays_real v s own r (Heard f ∷ []) h) none.1 ∙ ap (λ t. (second_of_week t + seconds es) % 604800) same
clock_keeps_time v s own r (Second ∷ es) h none =
    let after = ((interface_kind v s).acts own r Second).after in
    let rest = clock_keeps_time v s own after es (clock_stays_real v s own r (Second ∷ []) h) none in
    let step : second_of_week (time after) ≡ (second_of_week (time r) + 1) % 604800 = ap second_of_week (time_moves v s own r Second) ∙ one_more (time r) h in
    omega (arith, rest, step)
clock_keeps_time v s own r (Pushed p ∷ es) h none =
    let after = ((interface_kind v s).acts own r (Pushed p)).after in
    clock_keeps_time v s own after es (clock_stays_real v s own r (Pushed p ∷ []) h) none ∙ ap (λ t. (second_of_week t + seconds es) % 604800) (time_moves v s own r (Pushed p))

pub clock_is_set : EveryInterface ClockIsSet
clock_is_set v s own r f e =
    let parts = and_parts (eqb f.address 0) (is_command 0xD8 4 f && real (byte f 1) (byte f 2) (byte f 3)) e in
    let both = and_parts (is_command 0xD8 4 f) (real (byte f 1) (byte f 2) (byte f 3)) parts.1 in
    time_moves v s own r (Heard f)
    ∙ (cond-true (eqb f.address 0 && is_command 0xD8 4 f) _ _ (and_from (eqb f.address 0) (is_command 0xD8 4 f) parts.0 both.0)
    ∙ cond-true (real (byte f 1) (byte f 2) (byte f 3)) _ _ both.1)

-- a request for the time is no other command
module _ (v : Variant) (s : InterfaceSetup) (own : ℕ) (cells : List ℕ) (x : State) (f : Frame) (w : is_command 0xD7 1 f ≡ true) where
  only_told : clock_sent own x.clock f ≡ message 3 own (0xD8 ∷ x.clock.day ∷ x.clock.hour ∷ x.clock.minute ∷ []) ∷ []
  only_told = cond-true (is_command 0xD7 1 f) _ _ w

  told_on_command : command_sent v s own cells x f ≡ message 3 own (0xD8 ∷ x.clock.day ∷ x.clock.hour ∷ x.clock.minute ∷ []) ∷ []
  told_on_command =
      let no_status : status_sent own x f ≡ [] = cond-false (is_command 0xFA 2 f) _ _ (other_command 0xD7 1 f w 0xFA 2 refl) in
      λ i. no_memory own 0xD7 1 f w refl refl refl cells i ++ (no_status i ++ (no_type own 0xD7 1 f w v s i ++ only_told i))

pub clock_is_told : EveryInterface ClockIsTold
clock_is_told v s own r f to w =
    let x = decoded r.state in
    let Told : Outcome → Type 0 = λ o. o.sent ≡ message 3 own (0xD8 ∷ (time r).day ∷ (time r).hour ∷ (time r).minute ∷ []) ∷ [] in
    cond_both (eqb f.address own) _ _ Told (λ _. told_on_command v s own r.cells x f w)
    (λ other. cond_both (eqb f.address 0) _ _ Told (λ _. only_told v s own r.cells x f w)
    (λ neither. elim to [
      | inl here ↦ absurd (both_ways (eqb f.address own) other (eq-eqb _ _ here))
      | inr all ↦ absurd (both_ways (eqb f.address 0) neither (eq-eqb _ _ all))
    ]))
