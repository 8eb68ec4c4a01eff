-- How the clock of a button interface moves, and what sets it. Assumes nothing.
use Rattle.std.proofs.Common.{◌≡◌, ℕ, ◌+◌, ◌≤◌, ◌⊎◌, Bool, true, false, cond, ◌&&◌, eqb, ltb, refl, ap, ◌∙◌, inl, inr}
use Rattle.std.proofs.lemmas.Bool.{and_from, and_left, and_right, eq-eqb, ne_eqb, lt-ltb, le-ltb}
use Rattle.bus.specs.Frames.{byte, is_command}
use Rattle.station.specs.declared.event.Event.TheVariants.{Heard, Second}
use Rattle.station.specs.Kinds.{Record}
use Rattle.timing.specs.Times.{Time, real}
use Rattle.buttons.specs.Buttons.{variant}
use Rattle.kinds.specs.Kinds.{buttons_kind, EveryButtonInterface}
use Rattle.button_laws.specs.Clocks.{sets}
use Rattle.button_laws.specs.Interfaces.{time}
use Rattle.button_laws.proofs.Clocks.{time_moves, unset, clock_is_set}
use Rattle.module_laws.specs.InterfaceClock.{Shows, ClockSet, ClockMoves}

-- what the decoded time tells is shown
pub shows : (r : Record) (t : Time) → time r ≡ t → Shows r t.day t.hour t.minute t.second
shows r t e = record { its_day = ap (λ x. x.day) e; its_hour = ap (λ x. x.hour) e; its_minute = ap (λ x. x.minute) e; its_second = ap (λ x. x.second) e }

-- no time that does not exist
unreal : (a b c : ℕ) → (7 ≤ a) ⊎ ((24 ≤ b) ⊎ (60 ≤ c)) → real a b c ≡ false
unreal a b c (inl h) = and_left (ltb a 7) (ltb b 24 && ltb c 60) (le-ltb a 7 h)
unreal a b c (inr (inl h)) = and_right (ltb a 7) (ltb b 24 && ltb c 60) (and_left (ltb b 24) (ltb c 60) (le-ltb b 24 h))
unreal a b c (inr (inr h)) = and_right (ltb a 7) (ltb b 24 && ltb c 60) (and_right (ltb b 24) (ltb c 60) (le-ltb c 60 h))

pub clock_set : EveryButtonInterface ClockSet
clock_set s =
    record {
      sets = λ own r f all w d h m.
          let a = byte f 1 in
          let b = byte f 2 in
          let c = byte f 3 in
          let exists : real a b c ≡ true = and_from (ltb a 7) _ (lt-ltb a 7 d) (and_from (ltb b 24) (ltb c 60) (lt-ltb b 24 h) (lt-ltb c 60 m)) in
          shows ((buttons_kind s).acts own r (Heard f)).after (record { day = a; hour = b; minute = c; second = 0 })
          (clock_is_set variant s own r f (and_from (eqb f.address 0) _ (eq-eqb f.address 0 all) (and_from (is_command 0xD8 4 f) (real a b c) w exists)));
      sets_none = λ own r f all w none.
          let not_set : sets f ≡ false =
          and_right (eqb f.address 0) _ (and_right (is_command 0xD8 4 f) (real (byte f 1) (byte f 2) (byte f 3)) (unreal (byte f 1) (byte f 2) (byte f 3) none)) in
          shows ((buttons_kind s).acts own r (Heard f)).after (time r) (time_moves variant s own r (Heard f) ∙ unset (time r) f not_set);
    }

-- the next time, by what ends
abbrev next_time : Time → Bool → Bool → Bool → Bool → Time
next_time t s m h d =
    record {
      day = cond ((s && m) && h) (cond d 0 (t.day + 1)) t.day;
      hour = cond (s && m) (cond h 0 (t.hour + 1)) t.hour;
      minute = cond s (cond m 0 (t.minute + 1)) t.minute;
      second = cond s 0 (t.second + 1);
    }

pub clock_moves : EveryButtonInterface ClockMoves
clock_moves s =
    record {
      in_a_minute = λ r a own. moved own r false _ _ _ (ne_eqb _ _ a) refl refl refl;
      after_a_minute = λ r a b own. moved own r true false _ _ (eq-eqb _ _ a) (ne_eqb _ _ b) refl refl;
      after_an_hour = λ r a b c own. moved own r true true false _ (eq-eqb _ _ a) (eq-eqb _ _ b) (ne_eqb _ _ c) refl;
      after_a_day = λ r a b c d own. moved own r true true true false (eq-eqb _ _ a) (eq-eqb _ _ b) (eq-eqb _ _ c) (ne_eqb _ _ d);
      after_a_week = λ r a b c d own. moved own r true true true true (eq-eqb _ _ a) (eq-eqb _ _ b) (eq-eqb _ _ c) (eq-eqb _ _ d);
    }
  where
    moved : (own : ℕ) (r : Record) (x y z w : Bool) → eqb (time r).second 59 ≡ x → eqb (time r).minute 59 ≡ y → eqb (time r).hour 23 ≡ z → eqb (time r).day 6 ≡ w →
        let t = next_time (time r) x y z w in Shows ((buttons_kind s).acts own r Second).after t.day t.hour t.minute t.second
    moved own r x y z w a b c d =
        shows ((buttons_kind s).acts own r Second).after (next_time (time r) x y z w)
        (time_moves variant s own r Second ∙ (λ i. next_time (time r) (a i) (b i) (c i) (d i)))
