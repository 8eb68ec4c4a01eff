-- Where the pairs of a relay stand in its memory, and which cells say nothing. Assumes nothing.
use Rattle.std.proofs.Common.{◌≡◌, ℕ, ◌+◌, ◌*◌, ◌/◌, ◌%◌, ◌<◌, ◌≤◌, ◌≢◌, Bool, true, false, cond, not, ◌&&◌, ◌||◌, eqb, ltb, List, [], ◌++◌, get_or, is_some, Some, None, Option, sym, refl, ap, ◌∙◌, subst, inl, inr, arith}
use Rattle.std.proofs.lemmas.Bool.{and_parts, and_from, or_parts, or_cases, or_left, or_right, eqb-true, eq-eqb, ne_eqb, ltb-true, lt-ltb, both_ways, cases_eq, not-true, false≢true}
use Rattle.bus.specs.declared.frame.Frame.{Frame}
use Rattle.bus.specs.Frames.{is_command}
use Rattle.station.specs.declared.event.Event.{Event}
use Rattle.station.specs.declared.event.Event.TheVariants.{Heard, Second, Pushed}
use Rattle.station.specs.Kinds.{Record, Outcome, from_link, links, is_status}
use Rattle.module.specs.Designs.{idle}
use Rattle.relay.specs.declared.relay.RelaySetup.{RelaySetup}
use Rattle.relay.specs.declared.timers.Timers.{Timers}
use Rattle.relay.specs.declared.query.Query.{Query}
use Rattle.relay.specs.declared.action.Action.{Action}
use Rattle.relay.specs.declared.action.Action.TheVariants.{Clear, Set, Toggle, ToggleTimer, Start}
use Rattle.relay.specs.Contacts.{Contact, opened, closed, running, obeyed}
use Rattle.relay.specs.Relays.{contacts, state_of, commanded, named_channels, carried_out, answer, query, pairs, by_pairs, pair_bits, all_bits, all_ticked}
use Rattle.relay.specs.Reports.{made, report, lamps}
use Rattle.relay.specs.Channels.{numbered}
use Rattle.relay.specs.Relays.{design as relay_design}
use Rattle.relay.specs.Tables.{pair_cell, matches, first_pair, named_in, named, in_common}
use Rattle.laws.specs.Channels.{ChannelNumber, channel_1, channel_2, channel_3, channel_4, index, of_channel}
use Rattle.laws.specs.CountingCells.{SameWhere, AlikeRecords, reads, ActAlike}
use Rattle.laws.proofs.CountingCells.{first_same, stored_alike, ignored}
use Rattle.laws.proofs.Pairs.{first_pair_found, no_pair_found, first_match_obeyed, no_match_kept}
use Rattle.kinds.specs.Kinds.{relay_kind, EveryRelay}
use Rattle.relay_laws.specs.RelayPairs.{place}
use Rattle.relay_laws.proofs.RelayPairs.{counted, first_match, none_match}
use Rattle.relay_laws.proofs.RelayReports.{no_memory}
use Rattle.relay_laws.specs.RelayLayout.{within_range, becomes, Row, be_open, be_closed, run_timer_1, run_timer_2, ActionsObeyed, SomePairBears, PairsLink, Idle, Counts, IdleCellsIgnored}

-- what the pairs of a table ask
abbrev asked_at : Timers → ℕ → Action
asked_at t n =
    cond (eqb n 0) Clear
    (cond (eqb n 1) Set
    (cond (eqb n 2) Toggle (cond (eqb n 4) (ToggleTimer t.first) (cond (eqb n 5) (ToggleTimer t.second) (cond (eqb n 6) (Start t.first) (Start t.second))))))

-- in each of the three states
cleared : (t : Timers) (x : Contact) → obeyed Clear x ≡ becomes be_open be_open be_open t x
cleared t opened = refl
cleared t closed = refl
cleared t (running n) = refl

closed_by_set : (t : Timers) (x : Contact) → obeyed Set x ≡ becomes be_closed be_closed be_closed t x
closed_by_set t opened = refl
closed_by_set t closed = refl
closed_by_set t (running n) = refl

toggled : (t : Timers) (x : Contact) → obeyed Toggle x ≡ becomes be_closed be_open be_open t x
toggled t opened = refl
toggled t closed = refl
toggled t (running n) = refl

timer_toggled : (which : Timers → ℕ) (t : Timers) (x : Contact) → obeyed (ToggleTimer (which t)) x ≡ becomes (λ t. running (within_range (which t))) be_open be_open t x
timer_toggled which t opened = refl
timer_toggled which t closed = refl
timer_toggled which t (running n) = refl

timer_started : (which : Timers → ℕ) (t : Timers) (x : Contact) →
    obeyed (Start (which t)) x ≡ becomes (λ t. running (within_range (which t))) (λ t. running (within_range (which t))) (λ t. running (within_range (which t))) t x
timer_started which t opened = refl
timer_started which t closed = refl
timer_started which t (running n) = refl

-- a row, from what the definitions make of the three states
row_obeyed : (t : ℕ) (o c r : Timers → Contact) → t < 8 → (t ≢ 3) → ((timers : Timers) (x : Contact) → obeyed (asked_at timers t) x ≡ becomes o c r timers x) → Row t o c r
row_obeyed t from_open from_closed from_running l d same s own r f c i linked h =
    let p : ℕ = 15 * t + i in
    let within : i < 15 = h.within in
    let number : p / 15 ≡ t = omega arith in
    first_match_obeyed s own r f linked c p (first_match r.cells c f t i l d h)
    ∙ (ap (λ n. obeyed (asked_at (of_channel c s.timers) n) (of_channel c (contacts r))) number ∙ same (of_channel c s.timers) (of_channel c (contacts r)))

pub actions_obeyed : ActionsObeyed
actions_obeyed =
    record {
      clear = row_obeyed 0 be_open be_open be_open (omega arith) (λ e. absurd (omega arith)) cleared;
      set = row_obeyed 1 be_closed be_closed be_closed (omega arith) (λ e. absurd (omega arith)) closed_by_set;
      toggle = row_obeyed 2 be_closed be_open be_open (omega arith) (λ e. absurd (omega arith)) toggled;
      toggle_timer_1 = row_obeyed 4 run_timer_1 be_open be_open (omega arith) (λ e. absurd (omega arith)) (timer_toggled (λ t. t.first));
      toggle_timer_2 = row_obeyed 5 run_timer_2 be_open be_open (omega arith) (λ e. absurd (omega arith)) (timer_toggled (λ t. t.second));
      start_timer_1 = row_obeyed 6 run_timer_1 run_timer_1 run_timer_1 (omega arith) (λ e. absurd (omega arith)) (timer_started (λ t. t.first));
      start_timer_2 = row_obeyed 7 run_timer_2 run_timer_2 run_timer_2 (omega arith) (λ e. absurd (omega arith)) (timer_started (λ t. t.second));
      no_pair = λ s own r f c linked h. no_match_kept s own r f linked c (none_match r.cells c f h);
    }

-- whom a pair links
abbrev asks_address : ℕ → Query
asks_address a = record { address = a; buttons = None }

address_of : (cells : List ℕ) (c : ChannelNumber) (a q : ℕ) → matches cells (index c) (asks_address a) q ≡ true → (q / 15 ≢ 3) × (get_or cells (pair_cell (index c) q) 0 ≡ a)
address_of cells c a q m =
    let both = and_parts (not (eqb (q / 15) 3)) (eqb (get_or cells (pair_cell (index c) q) 0) a && true) m in
    ((λ e. absurd (both_ways (eqb (q / 15) 3) (not-true (eqb (q / 15) 3) both.0) (eq-eqb (q / 15) 3 e))), eqb-true _ _ (and_parts (eqb (get_or cells (pair_cell (index c) q) 0) a) true both.1).0)

in_channel : (cells : List ℕ) (c : ChannelNumber) (a : ℕ) → named_in cells (index c) a ≡ true → SomePairBears cells a
in_channel cells c a e = by (first_pair cells (index c) (asks_address a)) refl e
  where
    by : (o : Option ℕ) → first_pair cells (index c) (asks_address a) ≡ o → is_some o ≡ true → SomePairBears cells a
    by None e h = absurd (false≢true h)
    by (Some q) e h =
        let m = (first_pair_found cells (index c) (asks_address a) q).0 e in
        let within : q < 120 = m.in_table in
        let bears = address_of cells c a q m.matching in
        let there : place c (q / 15) (q % 15) ≡ pair_cell (index c) q = omega arith in
        record {
          channel = c;
          table = q / 15;
          number = q % 15;
          in_tables = omega arith;
          not_the_third = bears.0;
          in_table = omega arith;
          bears = ap (λ n. get_or cells n 0) there ∙ bears.1;
        }

some_names : (cells : List ℕ) (a : ℕ) → SomePairBears cells a → named cells a ≡ true
some_names cells a h = all h.channel (one h)
  where
    one : (h : SomePairBears cells a) → named_in cells (index h.channel) a ≡ true
    one h =
        let c = h.channel in
        let t : ℕ = h.table in
        let i : ℕ = h.number in
        let l : t < 8 = h.in_tables in
        let m : i < 15 = h.in_table in
        let other : not (eqb ((15 * t + i) / 15) 3) ≡ true = ap not (ne_eqb ((15 * t + i) / 15) 3 (λ e. h.not_the_third (omega arith))) in
        let here : eqb (get_or cells (pair_cell (index c) (15 * t + i)) 0) a ≡ true = eq-eqb _ _ (ap (λ n. get_or cells n 0) (counted c t i) ∙ h.bears) in
        let matching : matches cells (index c) (asks_address a) (15 * t + i) ≡ true = λ j. other j && (here j && true) in
        by c (15 * t + i) (omega arith) matching (first_pair cells (index c) (asks_address a)) refl
      where
        by : (c : ChannelNumber) (q : ℕ) → q < 120 → matches cells (index c) (asks_address a) q ≡ true → (o : Option ℕ) → first_pair cells (index c) (asks_address a) ≡ o → is_some (first_pair cells (index c) (asks_address a)) ≡ true
        by c q l m None e = absurd (both_ways (matches cells (index c) (asks_address a) q) ((no_pair_found cells (index c) (asks_address a)).0 e q l) m)
        by c q l m (Some p) e = ap is_some e

    all : (c : ChannelNumber) → named_in cells (index c) a ≡ true → named cells a ≡ true
    all channel_1 e = or_left (named_in cells 0 a) _ e
    all channel_2 e = or_right (named_in cells 0 a) _ (or_left (named_in cells 1 a) _ e)
    all channel_3 e = or_right (named_in cells 0 a) _ (or_right (named_in cells 1 a) _ (or_left (named_in cells 2 a) _ e))
    all channel_4 e = or_right (named_in cells 0 a) _ (or_right (named_in cells 1 a) _ (or_right (named_in cells 2 a) (named_in cells 3 a) e))

names_some : (cells : List ℕ) (a : ℕ) → named cells a ≡ true → SomePairBears cells a
names_some cells a e =
    elim (or_cases (named_in cells 0 a) (named_in cells 1 a || (named_in cells 2 a || named_in cells 3 a)) e) [
      | inl h ↦ in_channel cells channel_1 a h
      | inr e ↦ elim (or_cases (named_in cells 1 a) (named_in cells 2 a || named_in cells 3 a) e) [
        | inl h ↦ in_channel cells channel_2 a h
        | inr e ↦ elim (or_cases (named_in cells 2 a) (named_in cells 3 a) e) [ inl h ↦ in_channel cells channel_3 a h | inr h ↦ in_channel cells channel_4 a h ]
      ]
    ]

pub pairs_link : EveryRelay PairsLink
pairs_link s own r a = (forth, back)
  where
    forth : links (relay_kind s) own r a ≡ true → (0 < a) × (a < 255) × (a ≢ own) × SomePairBears r.cells a
    forth e =
        let one = and_parts (ltb 0 a) (ltb a 255 && (not (eqb a own) && named r.cells a)) e in
        let two = and_parts (ltb a 255) (not (eqb a own) && named r.cells a) one.1 in
        let three = and_parts (not (eqb a own)) (named r.cells a) two.1 in
        (ltb-true 0 a one.0, ltb-true a 255 two.0, (λ e. absurd (both_ways (eqb a own) (not-true (eqb a own) three.0) (eq-eqb a own e))), names_some r.cells a three.1)

    back : (0 < a) × (a < 255) × (a ≢ own) × SomePairBears r.cells a → links (relay_kind s) own r a ≡ true
    back h =
        and_from (ltb 0 a) _ (lt-ltb 0 a h.0)
        (and_from (ltb a 255) _ (lt-ltb a 255 h.1) (and_from (not (eqb a own)) (named r.cells a) (ap not (ne_eqb a own h.2)) (some_names r.cells a h.3)))

-- a pair outside table 3 stands in cells that count
counts : (c q : ℕ) → q < 120 → (q / 15 ≢ 3) → Idle (pair_cell c q) → ⊥
counts c q l d (inl h) = d (let low : 90 ≤ (256 * c + 2 * q) % 256 = h.0 in let high : (256 * c + 2 * q) % 256 < 120 = h.1 in omega arith)
counts c q l d (inr h) = omega arith

counts_too : (c q : ℕ) → q < 120 → (q / 15 ≢ 3) → Idle (pair_cell c q + 1) → ⊥
counts_too c q l d (inl h) = d (let low : 90 ≤ (256 * c + 2 * q + 1) % 256 = h.0 in let high : (256 * c + 2 * q + 1) % 256 < 120 = h.1 in omega arith)
counts_too c q l d (inr h) = omega arith

module _ (cells others : List ℕ) (alike : SameWhere Counts cells others) where
  match_same : (c : ℕ) (s : Query) (q : ℕ) → q < 120 → matches cells c s q ≡ matches others c s q
  match_same c s q l =
      elim (cases_eq (q / 15) 3) [
        | inl e ↦ let three : eqb (q / 15) 3 ≡ true = eq-eqb (q / 15) 3 e in none three (λ b. b && (eqb (get_or cells (pair_cell c q) 0) s.address && in_common s.buttons (get_or cells (pair_cell c q + 1) 0))) ∙ sym (none three (λ b. b && (eqb (get_or others (pair_cell c q) 0) s.address && in_common s.buttons (get_or others (pair_cell c q + 1) 0))))
        | inr d ↦
            (λ i. not (eqb (q / 15) 3) && (eqb (alike.same (pair_cell c q) (counts c q l d) i) s.address && in_common s.buttons (alike.same (pair_cell c q + 1) (counts_too c q l d) i)))
      ]
    where
      none : eqb (q / 15) 3 ≡ true → (g : Bool → Bool) → g (not (eqb (q / 15) 3)) ≡ g false
      none e g = ap (λ b. g (not b)) e

  pair_same : (c : ℕ) (s : Query) → first_pair cells c s ≡ first_pair others c s
  pair_same c s = first_same (matches cells c s) (matches others c s) 0 120 (λ q l. match_same c s q (omega arith))

  names_same : (a : ℕ) → named cells a ≡ named others a
  names_same a =
      λ i. is_some (pair_same 0 (asks_address a) i) || (is_some (pair_same 1 (asks_address a) i) || (is_some (pair_same 2 (asks_address a) i) || is_some (pair_same 3 (asks_address a) i)))

  bits_same : (c : ℕ) (s : Query) → pair_bits cells c (first_pair cells c s) ≡ pair_bits others c (first_pair others c s)
  bits_same c s = by (first_pair cells c s) refl ∙ ap (pair_bits others c) (pair_same c s)
    where
      by : (o : Option ℕ) → first_pair cells c s ≡ o → pair_bits cells c o ≡ pair_bits others c o
      by None e = refl
      by (Some q) e =
          let m = (first_pair_found cells c s q).0 e in
          let other : not (eqb (q / 15) 3) ≡ true = (and_parts (not (eqb (q / 15) 3)) _ m.matching).0 in
          ap Some (alike.same (pair_cell c q + 1) (counts_too c q m.in_table (λ z. absurd (both_ways (eqb (q / 15) 3) (not-true (eqb (q / 15) 3) other) (eq-eqb (q / 15) 3 z)))))

module _ (s : RelaySetup) (own : ℕ) (r q : Record) (h : AlikeRecords Counts r q) where
  -- two outcomes of an event
  record AlikeOutcomes (e : Event) (o p : Outcome) : Type 0 where
    after : AlikeRecords Counts o.after p.after
    sent : reads own e ≡ false → o.sent ≡ p.sent

  was : contacts r ≡ contacts q
  was = ap (λ t. contacts (record { cells = []; state = t })) h.state

  idle_alike : (e : Event) → AlikeOutcomes e (idle r) (idle q)
  idle_alike e = record { after = h; sent = λ _. refl }

  command_alike : (f : Frame) → eqb f.address own ≡ true → AlikeOutcomes (Heard f) ((relay_design s).command own r f) ((relay_design s).command own q f)
  command_alike f at =
      let asks : Bool = is_command 0xFD 3 f || (is_command 0xC9 3 f || is_command 0xCA 7 f) in
      record {
        after = record { cells = stored_alike Counts r.cells q.cells f h.cells; state = ap (λ x. state_of (carried_out (commanded f) (named_channels f) x)) was };
        sent = λ quiet.
            let one = or_parts (is_command 0xFD 3 f) (is_command 0xC9 3 f || is_command 0xCA 7 f) (sym (ap (λ b. b && asks) at) ∙ quiet) in
            let two = or_parts (is_command 0xC9 3 f) (is_command 0xCA 7 f) one.1 in
            (λ i. (no_memory own r.cells f one.0 two.0 two.1 ∙ sym (no_memory own q.cells f one.0 two.0 two.1)) i ++ answer own f (made (was i)) (carried_out (commanded f) (named_channels f) (was i)));
      }

  status_alike : (f : Frame) → AlikeOutcomes (Heard f) ((relay_design s).status own r f) ((relay_design s).status own q f)
  status_alike f =
      let found : pairs r.cells f ≡ pairs q.cells f = λ i. numbered (λ c. pair_same r.cells q.cells h.cells c (query f) i) in
      let bits : all_bits r.cells (pairs r.cells f) ≡ all_bits q.cells (pairs q.cells f) =
      λ i. numbered (λ c. bits_same r.cells q.cells h.cells c (query f) i) in
      let is : by_pairs s.timers (pairs r.cells f) (contacts r) ≡ by_pairs s.timers (pairs q.cells f) (contacts q) = λ i. by_pairs s.timers (found i) (was i) in
      record {
        after = record { cells = h.cells; state = ap state_of is };
        sent = λ _ i. report own (made (was i)) (is i) ++ lamps f.address (made (was i)) (made (is i)) (bits i);
      }

  both : (e : Event) (b : Bool) (o o' p p' : Outcome) → (b ≡ true → AlikeOutcomes e o p) → (b ≡ false → AlikeOutcomes e o' p') → AlikeOutcomes e (cond b o o') (cond b p p')
  both e true o o' p p' x y = x refl
  both e false o o' p p' x y = y refl

  links_alike : (a : ℕ) → links (relay_kind s) own r a ≡ links (relay_kind s) own q a
  links_alike a = λ i. ltb 0 a && (ltb a 255 && (not (eqb a own) && names_same r.cells q.cells h.cells a i))

  event_alike : (e : Event) → AlikeOutcomes e ((relay_kind s).acts own r e) ((relay_kind s).acts own q e)
  event_alike (Heard f) =
      let d = relay_design s in
      let linking : from_link (relay_kind s) own r f ≡ from_link (relay_kind s) own q f = ap (λ b. is_status f && b) (links_alike f.address) in
      let at_link : AlikeOutcomes (Heard f) (cond (from_link (relay_kind s) own r f) (d.status own r f) (idle r)) (cond (from_link (relay_kind s) own q f) (d.status own q f) (idle q)) =
      subst (λ b. AlikeOutcomes (Heard f) (cond (from_link (relay_kind s) own r f) (d.status own r f) (idle r)) (cond b (d.status own q f) (idle q))) linking
      (both (Heard f) (from_link (relay_kind s) own r f) (d.status own r f) (idle r) (d.status own q f) (idle q) (λ _. status_alike f) (λ _. idle_alike (Heard f))) in
      both (Heard f) (eqb f.address own) (d.command own r f) _ (d.command own q f) _ (command_alike f)
      (λ _. both (Heard f) (eqb f.address 0) (idle r) _ (idle q) _ (λ _. idle_alike (Heard f)) (λ _. at_link))
  event_alike Second =
      record {
        after = record { cells = h.cells; state = ap (λ x. state_of (all_ticked x)) was };
        sent = λ _. ap (λ x. report own (made x) (all_ticked x)) was;
      }
  event_alike (Pushed p) = both (Pushed p) (eqb p.address own) (idle r) (idle r) (idle q) (idle q) (λ _. idle_alike (Pushed p)) (λ _. idle_alike (Pushed p))

  act_alike : ActAlike Counts (relay_kind s) own r q
  act_alike = record { linking = links_alike; after = λ e. (event_alike e).after; sent = λ e. (event_alike e).sent }

pub idle_cells_ignored : EveryRelay IdleCellsIgnored
idle_cells_ignored s = ignored Counts (relay_kind s) (act_alike s)
