-- What the link records of a button interface make of its holds, and whom they link. Assumes nothing.
use Rattle.std.proofs.Common.{◌≡◌, ℕ, zero, suc, ◌+◌, ◌-◌, ◌*◌, ◌<◌, ◌≤◌, ◌≢◌, Bool, true, false, not, ◌&&◌, eqb, ltb, leb, List, is_some, Some, None, sym, refl, ap, ◌∙◌, subst, inl, inr, arith}
use lib.Bits.{bit_and}
use Rattle.std.proofs.lemmas.Bool.{false≢true, both_ways, not-true, cases_Bool, cases_eq, cases_lt, cond-true, cond-false, cond_both, and_parts, and_cases, and_from, and_left, and_right, eqb-true, eq-eqb, ne_eqb, ltb-true, lt-ltb, le-leb, lt-leb, le-ltb}
use Rattle.bus.specs.declared.frame.Frame.{Frame}
use Rattle.station.specs.declared.event.Event.TheVariants.{Heard}
use Rattle.station.specs.Kinds.{Outcome, links}
use Rattle.module.specs.Bits.{has_bit}
use Rattle.module.specs.Pushes.{bit}
use Rattle.module.specs.Searches.{first}
use Rattle.module.proofs.Answered.{at_link}
use Rattle.timing.specs.declared.locking.Locking.{Locking}
use Rattle.timing.specs.declared.locking.Locking.TheVariants.{Lock, Toggle, Unlock}
use Rattle.timing.specs.Holds.{locked, hold_for, obeyed}
use Rattle.timing.specs.TimeCodes.{stretches, by_stretch, hold_of_code}
use Rattle.interface.specs.Links.{bears, named, lock_for, toggle_for, asked, matches}
use Rattle.buttons.specs.Buttons.{variant}
use Rattle.buttons.specs.Buttons.{design as buttons_design}
use Rattle.kinds.specs.Kinds.{buttons_kind, EveryButtonInterface}
use Rattle.button_laws.specs.Holding.{InOrder}
use Rattle.button_laws.specs.Interfaces.{hold as decoded_hold}
use Rattle.button_laws.proofs.Holding.{records_act_in_order, short}
use Rattle.module_laws.specs.InterfaceStates.{hold, names_channel}
use Rattle.module_laws.specs.InterfaceRecords.{record_byte, fits, Lasts, Makes, InTurn, OneLastHold, RecordsObeyed, SomeRecordBears, RecordsLink}
use Rattle.module_laws.proofs.InterfaceStates.{same_hold, same_bit}

-- whether a number passes in a search
record Somewhere (test : ℕ → Bool) (i n : ℕ) : Type 0 where
  place : ℕ
  from : i ≤ place
  below : place < i + n
  passes : test place ≡ true

somewhere : (test : ℕ → Bool) (i n : ℕ) → is_some (first test i n) ≡ true → Somewhere test i n
unfolding first
somewhere test i zero e = absurd (false≢true e)
somewhere test i (suc n) e =
    elim (cases_Bool (test i)) [
      | inl t ↦ record { place = i; from = omega arith; below = omega arith; passes = t }
      | inr t ↦
          let later = somewhere test (suc i) n (ap is_some (sym (cond-false (test i) (Some i) (first test (suc i) n) t)) ∙ e) in
          record { place = later.place; from = omega (arith, later.from); below = omega (arith, later.below); passes = later.passes }
    ]

found : (test : ℕ → Bool) (i n q : ℕ) → i ≤ q → q < i + n → test q ≡ true → is_some (first test i n) ≡ true
unfolding first
found test i zero q l m t = absurd (omega arith)
found test i (suc n) q l m t =
    cond_both (test i) (Some i) (first test (suc i) n) (λ o. is_some o ≡ true) (λ _. refl)
    (λ fails.
    let apart : i ≡ q → ⊥ = λ e. both_ways (test q) (ap test (sym e) ∙ fails) t in
    found test (suc i) n q (omega (arith, apart)) (omega arith) t)

-- the time of a code
module _ (code : ℕ) where
  abbrev time : ℕ
  time = by_stretch stretches code

  in_hours_10 : 238 ≤ code → time ≡ 36000 + 3600 * (code - 238)
  in_hours_10 l = cond-true (leb 238 code) _ _ (le-leb 238 code l)

  in_hours_5 : 228 ≤ code → code < 238 → time ≡ 18000 + 1800 * (code - 228)
  in_hours_5 l h = cond-false (leb 238 code) _ _ (lt-leb 238 code h) ∙ cond-true (leb 228 code) _ _ (le-leb 228 code l)

  in_hour_1 : 212 ≤ code → code < 228 → time ≡ 3600 + 900 * (code - 212)
  in_hour_1 l h =
      cond-false (leb 238 code) _ _ (lt-leb 238 code (omega arith))
      ∙ (cond-false (leb 228 code) _ _ (lt-leb 228 code h) ∙ cond-true (leb 212 code) _ _ (le-leb 212 code l))

  in_minutes_30 : 182 ≤ code → code < 212 → time ≡ 1800 + 60 * (code - 182)
  in_minutes_30 l h =
      cond-false (leb 238 code) _ _ (lt-leb 238 code (omega arith))
      ∙ (cond-false (leb 228 code) _ _ (lt-leb 228 code (omega arith))
      ∙ (cond-false (leb 212 code) _ _ (lt-leb 212 code h) ∙ cond-true (leb 182 code) _ _ (le-leb 182 code l)))

  in_minutes_5 : 132 ≤ code → code < 182 → time ≡ 300 + 30 * (code - 132)
  in_minutes_5 l h =
      cond-false (leb 238 code) _ _ (lt-leb 238 code (omega arith))
      ∙ (cond-false (leb 228 code) _ _ (lt-leb 228 code (omega arith))
      ∙ (cond-false (leb 212 code) _ _ (lt-leb 212 code (omega arith))
      ∙ (cond-false (leb 182 code) _ _ (lt-leb 182 code h) ∙ cond-true (leb 132 code) _ _ (le-leb 132 code l))))

  in_minutes_2 : 120 ≤ code → code < 132 → time ≡ 120 + 15 * (code - 120)
  in_minutes_2 l h =
      cond-false (leb 238 code) _ _ (lt-leb 238 code (omega arith))
      ∙ (cond-false (leb 228 code) _ _ (lt-leb 228 code (omega arith))
      ∙ (cond-false (leb 212 code) _ _ (lt-leb 212 code (omega arith))
      ∙ (cond-false (leb 182 code) _ _ (lt-leb 182 code (omega arith))
      ∙ (cond-false (leb 132 code) _ _ (lt-leb 132 code h) ∙ cond-true (leb 120 code) _ _ (le-leb 120 code l)))))

  in_seconds : code < 120 → time ≡ code
  in_seconds h =
      let plain : 0 + 1 * (code - 0) ≡ code = omega arith in
      cond-false (leb 238 code) _ _ (lt-leb 238 code (omega arith))
      ∙ (cond-false (leb 228 code) _ _ (lt-leb 228 code (omega arith))
      ∙ (cond-false (leb 212 code) _ _ (lt-leb 212 code (omega arith))
      ∙ (cond-false (leb 182 code) _ _ (lt-leb 182 code (omega arith))
      ∙ (cond-false (leb 132 code) _ _ (lt-leb 132 code (omega arith))
      ∙ (cond-false (leb 120 code) _ _ (lt-leb 120 code h) ∙ (cond-true (leb 0 code) _ _ (le-leb 0 code (omega arith)) ∙ plain))))))

  time_lasts : Lasts code time
  time_lasts =
      record {
        each_second = in_seconds;
        from_2_minutes = in_minutes_2;
        from_5_minutes = in_minutes_5;
        from_30_minutes = in_minutes_30;
        from_1_hour = in_hour_1;
        from_5_hours = in_hours_5;
        from_10_hours = λ l h. in_hours_10 l;
      }

pub records_link : EveryButtonInterface RecordsLink
records_link s own r a = (forth, back)
  where
    some : named r.cells a ≡ true → SomeRecordBears r.cells a
    some e =
        let there = somewhere (bears r.cells a) 0 51 e in
        record { number = there.place; within = omega (arith, there.below); bears = eqb-true _ _ there.passes }

    forth : links (buttons_kind s) own r a ≡ true → (0 < a) × (a < 255) × (a ≢ own) × SomeRecordBears r.cells a
    forth e =
        let one = and_parts (ltb 0 a) (ltb a 255 && (not (eqb a own) && named r.cells a)) e in
        let two = and_parts (ltb a 255) (not (eqb a own) && named r.cells a) one.1 in
        let three = and_parts (not (eqb a own)) (named r.cells a) two.1 in
        (ltb-true 0 a one.0, ltb-true a 255 two.0, (λ e. absurd (both_ways (eqb a own) (not-true (eqb a own) three.0) (eq-eqb a own e))), some three.1)

    back : (0 < a) × (a < 255) × (a ≢ own) × SomeRecordBears r.cells a → links (buttons_kind s) own r a ≡ true
    back h =
        and_from (ltb 0 a) _ (lt-ltb 0 a h.0)
        (and_from (ltb a 255) _ (lt-ltb a 255 h.1)
        (and_from (not (eqb a own)) (named r.cells a) (ap not (ne_eqb a own h.2))
        (found (bears r.cells a) 0 51 h.3.number (omega arith) (omega (arith, h.3.within)) (eq-eqb _ _ h.3.bears))))

-- what the hold of a code is
no_end : (code : ℕ) → code ≡ 0 → hold_of_code code ≡ Some 0xFFFFFF
no_end code e = cond-true (eqb code 0) _ _ (eq-eqb code 0 e)

timed : (code : ℕ) → 0 < code → code < 252 → hold_of_code code ≡ Some (time code)
timed code p h = cond-false (eqb code 0) _ _ (ne_eqb code 0 (λ z. omega arith)) ∙ cond-true (ltb code 252) _ _ (lt-ltb code 252 h)

no_hold : (code : ℕ) → 252 ≤ code → hold_of_code code ≡ None
no_hold code l = cond-false (eqb code 0) _ _ (ne_eqb code 0 (λ z. omega arith)) ∙ cond-false (ltb code 252) _ _ (le-ltb code 252 l)

some_hold : (code : ℕ) → code < 252 → (t : ℕ) × (hold_of_code code ≡ Some t)
some_hold code h =
    elim (cases_eq code 0) [
      | inl z ↦ (0xFFFFFF, no_end code z)
      | inr n ↦ (time code, timed code (omega arith) h)
    ]

-- no code is as long as a hold without end
whole : (code : ℕ) → code < 252 → hold_for (time code) ≡ time code
whole code h = let less : time code < 0xFFFFFF = short code (time code) (cond-true (ltb code 252) _ _ (lt-ltb code 252 h)) in omega arith

module _ (cells : List ℕ) (f : Frame) (channel first last : ℕ) (low : 1 ≤ channel) (high : channel ≤ 8) (x : InOrder variant cells f channel first last) (k : ℕ) (within : k < 51) where
  abbrev action : ℕ
  action = record_byte cells k 2

  abbrev code : ℕ
  code = record_byte cells k 3

  abbrev was : ℕ
  was = x.before k

  abbrev is : ℕ
  is = x.before (suc k)

  abbrev is_named : Bool
  is_named = names_channel (record_byte cells k 4) channel

  bit_counts : has_bit (bit_and (record_byte cells k 4) 0xFF) (bit channel) ≡ is_named
  bit_counts = same_bit (record_byte cells k 4) channel low high

  -- a record that fits does what it asks
  does : fits cells f channel k ≡ true → (l : Locking) → asked action code ≡ Some l → is ≡ obeyed l was
  does fit l asks =
      let both = and_parts (matches cells f k) is_named fit in
      x.acts k l within (and_from (matches cells f k) _ both.0 (and_from (is_some (asked action code)) _ (ap is_some asks) (bit_counts ∙ both.1))) asks

  idle : asked action code ≡ None → is ≡ was
  idle asks = x.passes k within (and_right (matches cells f k) _ (and_left (is_some (asked action code)) _ (ap is_some asks)))

  passes : fits cells f channel k ≡ false → is ≡ was
  passes unfit =
      elim (and_cases (matches cells f k) is_named unfit) [
        | inl miss ↦ x.passes k within (and_left (matches cells f k) _ miss)
        | inr other ↦ x.passes k within (and_right (matches cells f k) _ (and_right (is_some (asked action code)) _ (bit_counts ∙ other)))
      ]

  locking : action ≡ 3 → asked action code ≡ lock_for (hold_of_code code)
  locking e = ap (λ a. asked a code) e

  toggling : action ≡ 4 → asked action code ≡ toggle_for (hold_of_code code)
  toggling e = ap (λ a. asked a code) e

  makes : fits cells f channel k ≡ true → Makes action code was is
  makes fit =
      record {
        locks = λ e p h. subst (Lasts code) (sym (does fit (Lock (time code)) (locking e ∙ ap lock_for (timed code p h)) ∙ whole code h)) (time_lasts code);
        locks_for_good = λ e z. does fit (Lock 0xFFFFFF) (locking e ∙ ap lock_for (no_end code z));
        locks_none = λ e l. idle (locking e ∙ ap lock_for (no_hold code l));
        locks_free = λ e free p h.
            subst (Lasts code) (sym (does fit (Toggle (time code)) (toggling e ∙ ap toggle_for (timed code p h)) ∙ (ap (obeyed (Toggle (time code))) free ∙ whole code h))) (time_lasts code);
        locks_free_for_good = λ e free z. does fit (Toggle 0xFFFFFF) (toggling e ∙ ap toggle_for (no_end code z)) ∙ ap (obeyed (Toggle 0xFFFFFF)) free;
        frees_locked = λ e shut h.
            let some = some_hold code h in
            does fit (Toggle some.0) (toggling e ∙ ap toggle_for some.1) ∙ cond-true (locked was) _ _ (ap not (ne_eqb was 0 (λ z. omega arith)));
        toggles_none = λ e l. idle (toggling e ∙ ap toggle_for (no_hold code l));
        frees = λ e. does fit Unlock (ap (λ a. asked a code) e);
        others = λ a b c.
            idle (cond-false (eqb action 3) _ _ (ne_eqb action 3 a) ∙ (cond-false (eqb action 4) _ _ (ne_eqb action 4 b) ∙ cond-false (eqb action 5) _ _ (ne_eqb action 5 c)));
      }

in_turn : (cells : List ℕ) (f : Frame) (channel first last : ℕ) → 1 ≤ channel → channel ≤ 8 → InOrder variant cells f channel first last → InTurn cells f channel first last
in_turn cells f channel first last low high x =
    record {
      before = x.before;
      starts = x.starts;
      fitting = λ k within fit. makes cells f channel first last low high x k within fit;
      other = λ k within unfit. passes cells f channel first last low high x k within unfit;
      ends = x.ends;
    }

pub records_obeyed : EveryButtonInterface RecordsObeyed
records_obeyed s own r f linked =
    record {
      holds = λ c low high.
          let after = ((buttons_kind s).acts own r (Heard f)).after in
          subst (λ n. InTurn r.cells f c n (hold after c)) (sym (same_hold r c low high))
          (subst (λ n. InTurn r.cells f c (decoded_hold r c) n) (sym (same_hold after c low high))
          (in_turn r.cells f c (decoded_hold r c) (decoded_hold after c) low high (records_act_in_order variant s own r f c low high linked)));
      silent = ap (λ (o : Outcome). o.sent) (at_link (buttons_design s) own r f linked);
    }

lasts_once : (code x y : ℕ) → code < 252 → Lasts code x → Lasts code y → x ≡ y
lasts_once code x y h p q =
    elim (cases_lt code 120) [
      | inl a ↦ p.each_second a ∙ sym (q.each_second a)
      | inr l ↦ elim (cases_lt code 132) [
        | inl a ↦ p.from_2_minutes l a ∙ sym (q.from_2_minutes l a)
        | inr l ↦ elim (cases_lt code 182) [
          | inl a ↦ p.from_5_minutes l a ∙ sym (q.from_5_minutes l a)
          | inr l ↦ elim (cases_lt code 212) [
            | inl a ↦ p.from_30_minutes l a ∙ sym (q.from_30_minutes l a)
            | inr l ↦ elim (cases_lt code 228) [
              | inl a ↦ p.from_1_hour l a ∙ sym (q.from_1_hour l a)
              | inr l ↦ elim (cases_lt code 238) [
                | inl a ↦ p.from_5_hours l a ∙ sym (q.from_5_hours l a)
                | inr l ↦ p.from_10_hours l h ∙ sym (q.from_10_hours l h)
              ]
            ]
          ]
        ]
      ]
    ]

makes_once : (action code was x y : ℕ) → Makes action code was x → Makes action code was y → x ≡ y
makes_once action code was x y p q =
    elim (cases_eq action 5) [
      | inl five ↦ p.frees five ∙ sym (q.frees five)
      | inr not_five ↦ elim (cases_eq action 3) [
        | inl three ↦ elim (cases_lt code 252) [
          | inl h ↦ elim (cases_eq code 0) [
            | inl z ↦ p.locks_for_good three z ∙ sym (q.locks_for_good three z)
            | inr n ↦ lasts_once code x y h (p.locks three (omega arith) h) (q.locks three (omega arith) h)
          ]
          | inr l ↦ p.locks_none three l ∙ sym (q.locks_none three l)
        ]
        | inr not_three ↦ elim (cases_eq action 4) [
          | inl four ↦ elim (cases_lt code 252) [
            | inl h ↦ elim (cases_eq was 0) [
              | inl free ↦ elim (cases_eq code 0) [
                | inl z ↦ p.locks_free_for_good four free z ∙ sym (q.locks_free_for_good four free z)
                | inr n ↦ lasts_once code x y h (p.locks_free four free (omega arith) h) (q.locks_free four free (omega arith) h)
              ]
              | inr shut ↦ p.frees_locked four (omega arith) h ∙ sym (q.frees_locked four (omega arith) h)
            ]
            | inr l ↦ p.toggles_none four l ∙ sym (q.toggles_none four l)
          ]
          | inr not_four ↦ p.others not_three not_four not_five ∙ sym (q.others not_three not_four not_five)
        ]
      ]
    ]

pub one_last_hold : OneLastHold
one_last_hold cells f channel first last other p q = sym p.ends ∙ (same 51 (omega arith) ∙ q.ends)
  where
    same : (k : ℕ) → k ≤ 51 → p.before k ≡ q.before k
    same zero l = p.starts ∙ sym q.starts
    same (suc k) l =
        let here = same k (omega arith) in
        elim (cases_Bool (fits cells f channel k)) [
          | inl fit ↦
              makes_once (record_byte cells k 2) (record_byte cells k 3) (p.before k) (p.before (suc k)) (q.before (suc k)) (p.fitting k (omega arith) fit)
              (subst (λ w. Makes (record_byte cells k 2) (record_byte cells k 3) w (q.before (suc k))) (sym here) (q.fitting k (omega arith) fit))
          | inr unfit ↦ p.other k (omega arith) unfit ∙ (here ∙ sym (q.other k (omega arith) unfit))
        ]
