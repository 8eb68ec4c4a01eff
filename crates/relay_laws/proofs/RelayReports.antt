-- What a relay tells of its channels. Assumes nothing.
use Rattle.std.proofs.Common.{◌≡◌, ℕ, ◌+◌, ◌*◌, Bool, true, false, cond, not, ◌&&◌, ◌||◌, eqb, List, [], ◌∷◌, ◌++◌, get_or, Some, None, Option, sym, refl, ap, ◌∙◌}
use Rattle.std.proofs.lemmas.Bool.{cond-true, cond-false, cond_both, or_parts, or_from, both_ways}
use Rattle.bus.specs.declared.frame.Frame.{Frame}
use Rattle.bus.specs.Frames.{is_command, message}
use Rattle.bus.proofs.Commands.{other_command}
use Rattle.station.specs.declared.event.Event.{Event}
use Rattle.station.specs.declared.event.Event.TheVariants.{Heard, Second, Pushed}
use Rattle.station.specs.Kinds.{Record, Outcome, from_link}
use Rattle.station.specs.Rules.{stored}
use Rattle.module.specs.Designs.{idle}
use Rattle.module.specs.Memories.{memory_sent}
use Rattle.module.proofs.Answered.{at_own, at_link}
use Rattle.relay.specs.declared.relay.RelaySetup.{RelaySetup}
use Rattle.relay.specs.declared.per_channel.PerChannel.{PerChannel}
use Rattle.relay.specs.Contacts.{Contact, opened, closed, running, is_closed}
use Rattle.relay.specs.Relays.{contacts, commanded, named_channels, carried_out, answer, query, pairs, by_pairs, pair_bits, all_bits, all_ticked}
use Rattle.relay.specs.Relays.{design as relay_design}
use Rattle.relay.specs.Reports.{made, told, statuses, differ, rise, risen, switched, report, lamp, lamps}
use Rattle.relay.specs.Tables.{pair_cell, first_pair}
use Rattle.relay.proofs.Decoded.{decoded}
use Rattle.relay.proofs.Unchanged.{same_unreported}
use Rattle.laws.specs.Channels.{ChannelNumber, channel_1, channel_2, channel_3, channel_4, index, of_channel}
use Rattle.kinds.specs.Kinds.{relay_kind, EveryRelay}
use Rattle.relay_laws.specs.RelayCommands.{is_named}
use Rattle.relay_laws.specs.RelayPairs.{place, PairNumber, Obeys}
use Rattle.relay_laws.proofs.RelayPairs.{counted, among_all, pair_found, numbered, found_pair, only_one}
use Rattle.relay_laws.specs.RelayReports.{bit_of, is_made, closes, opens, channel_status, where_so, in_turn, bits_where, one_switch, changes_told, lamp_told, by_link, is_question, ReportsExactly}
use Rattle.relay_laws.proofs.RelayCommands.{named, asks_none}

made_same : (x : Contact) → is_made x ≡ is_closed x
made_same opened = refl
made_same closed = refl
made_same (running n) = refl

-- the changes, in the two spellings
status_same : (own : ℕ) (c : ChannelNumber) (was is : Contact) →
    where_so (closes was is || opens was is) (channel_status own c is) ≡ told own (bit_of c) (differ (is_closed was) (is_closed is)) is
status_same own c opened opened = refl
status_same own c opened closed = refl
status_same own c opened (running n) = refl
status_same own c closed opened = refl
status_same own c closed closed = refl
status_same own c closed (running n) = refl
status_same own c (running m) opened = refl
status_same own c (running m) closed = refl
status_same own c (running m) (running n) = refl

rise_same : (bit : ℕ) (was is : Contact) → cond (closes was is) bit 0 ≡ rise bit (is_closed was) (is_closed is)
rise_same bit was is = λ i. cond (made_same is i && not (made_same was i)) bit 0

fall_same : (bit : ℕ) (was is : Contact) → cond (opens was is) bit 0 ≡ rise bit (is_closed is) (is_closed was)
fall_same bit was is = λ i. cond (made_same was i && not (made_same is i)) bit 0

switch_same : (own on off : ℕ) → one_switch own on off ≡ cond (eqb on 0 && eqb off 0) [] (message 0 own (0x00 ∷ on ∷ off ∷ 0 ∷ []) ∷ [])
switch_same own on off = by (eqb on 0 && eqb off 0)
  where
    by : (b : Bool) → where_so (not b) (message 0 own (0x00 ∷ on ∷ off ∷ 0 ∷ [])) ≡ cond b [] (message 0 own (0x00 ∷ on ∷ off ∷ 0 ∷ []) ∷ [])
    by true = refl
    by false = refl

pub report_same : (own : ℕ) (was is : PerChannel Contact) → report own (made was) is ≡ changes_told own was is
report_same own was is =
    let on : bits_where (λ c. closes (of_channel c was) (of_channel c is)) ≡ risen (made was) (made is) =
    λ i. rise_same 1 was.one is.one i + (rise_same 2 was.two is.two i + (rise_same 4 was.three is.three i + rise_same 8 was.four is.four i)) in
    let off : bits_where (λ c. opens (of_channel c was) (of_channel c is)) ≡ risen (made is) (made was) =
    λ i. fall_same 1 was.one is.one i + (fall_same 2 was.two is.two i + (fall_same 4 was.three is.three i + fall_same 8 was.four is.four i)) in
    let switch : one_switch own (bits_where (λ c. closes (of_channel c was) (of_channel c is))) (bits_where (λ c. opens (of_channel c was) (of_channel c is))) ≡ switched own (made was) (made is) =
    switch_same own (bits_where (λ c. closes (of_channel c was) (of_channel c is))) (bits_where (λ c. opens (of_channel c was) (of_channel c is)))
    ∙ (λ i. cond (eqb (on i) 0 && eqb (off i) 0) [] (message 0 own (0x00 ∷ on i ∷ off i ∷ 0 ∷ []) ∷ [])) in
    sym (λ i.
    (status_same own channel_1 was.one is.one i
    ++ (status_same own channel_2 was.two is.two i ++ (status_same own channel_3 was.three is.three i ++ status_same own channel_4 was.four is.four i)))
    ++ switch i)

-- the lamps, in the two spellings
bits_same : (cells : List ℕ) (c : ChannelNumber) (p : PairNumber) → get_or cells (pair_cell (index c) (15 * p.table + p.number) + 1) 0 ≡ get_or cells (place c p.table p.number + 1) 0
bits_same cells c p = ap (λ n. get_or cells (n + 1) 0) (counted c p.table p.number)

lit_same : (a bits : ℕ) (was is : Contact) →
    lamp a (is_closed was) (is_closed is) (Some bits) ≡ where_so (closes was is) (message 3 a (0xF6 ∷ bits ∷ [])) ++ where_so (opens was is) (message 3 a (0xF5 ∷ bits ∷ []))
lit_same a bits opened opened = refl
lit_same a bits opened closed = refl
lit_same a bits opened (running n) = refl
lit_same a bits closed opened = refl
lit_same a bits closed closed = refl
lit_same a bits closed (running n) = refl
lit_same a bits (running m) opened = refl
lit_same a bits (running m) closed = refl
lit_same a bits (running m) (running n) = refl

lamp_same : (cells : List ℕ) (a : ℕ) (c : ChannelNumber) (p : Option PairNumber) (was is : Contact) →
    lamp a (is_closed was) (is_closed is) (pair_bits cells (index c) (among_all p)) ≡ lamp_told cells a c p was is
lamp_same cells a c None was is = refl
lamp_same cells a c (Some p) was is =
    ap (λ bits. lamp a (is_closed was) (is_closed is) (Some bits)) (bits_same cells c p) ∙ lit_same a (get_or cells (place c p.table p.number + 1) 0) was is

-- the records after each event
pub after_command : (s : RelaySetup) (own : ℕ) (r : Record) (f : Frame) → f.address ≡ own →
    contacts ((relay_kind s).acts own r (Heard f)).after ≡ carried_out (commanded f) (named_channels f) (contacts r)
after_command s own r f e =
    ap (λ o. contacts o.after) (at_own (relay_design s) own r f e) ∙ decoded (stored r.cells f) (carried_out (commanded f) (named_channels f) (contacts r))

pub after_status : (s : RelaySetup) (own : ℕ) (r : Record) (f : Frame) → from_link (relay_kind s) own r f ≡ true →
    contacts ((relay_kind s).acts own r (Heard f)).after ≡ by_pairs s.timers (pairs r.cells f) (contacts r)
after_status s own r f l =
    ap (λ o. contacts o.after) (at_link (relay_design s) own r f l) ∙ decoded r.cells (by_pairs s.timers (pairs r.cells f) (contacts r))

-- no question has no answer
pub no_memory : (own : ℕ) (cells : List ℕ) (f : Frame) → is_command 0xFD 3 f ≡ false → is_command 0xC9 3 f ≡ false → is_command 0xCA 7 f ≡ false → memory_sent own cells f ≡ []
no_memory own cells f a b c =
    cond-false (is_command 0xFD 3 f) _ _ a ∙ cond-false (is_command 0xC9 3 f || is_command 0xCA 7 f) _ _ (or_from (is_command 0xC9 3 f) (is_command 0xCA 7 f) b c)

-- an outcome tells its changes
abbrev Tells : ℕ → Record → Outcome → Type 0
Tells own r o = o.sent ≡ changes_told own (contacts r) (contacts o.after)

pub idle_tells : (own : ℕ) (r : Record) → Tells own r (idle r)
idle_tells own r = sym (same_unreported own (contacts r)) ∙ report_same own (contacts r) (contacts r)

command_tells : (s : RelaySetup) (own : ℕ) (r : Record) (f : Frame) →
    (is_command 0xFA 2 f || (is_command 0xFD 3 f || (is_command 0xC9 3 f || is_command 0xCA 7 f))) ≡ false → Tells own r ((relay_design s).command own r f)
command_tells s own r f q =
    let a = or_parts (is_command 0xFA 2 f) (is_command 0xFD 3 f || (is_command 0xC9 3 f || is_command 0xCA 7 f)) q in
    let b = or_parts (is_command 0xFD 3 f) (is_command 0xC9 3 f || is_command 0xCA 7 f) a.1 in
    let c = or_parts (is_command 0xC9 3 f) (is_command 0xCA 7 f) b.1 in
    let is = carried_out (commanded f) (named_channels f) (contacts r) in
    ap (λ t. t ++ answer own f (made (contacts r)) is) (no_memory own r.cells f b.0 c.0 c.1)
    ∙ (cond-false (is_command 0xFA 2 f) _ _ a.0
    ∙ (report_same own (contacts r) is ∙ ap (changes_told own (contacts r)) (sym (decoded (stored r.cells f) is))))

itself : (s : RelaySetup) (own : ℕ) (r : Record) (e : Event) → is_question own e ≡ false → by_link (relay_kind s) own r e ≡ false → Tells own r ((relay_kind s).acts own r e)
itself s own r (Heard f) q l =
    let asks : Bool = is_command 0xFA 2 f || (is_command 0xFD 3 f || (is_command 0xC9 3 f || is_command 0xCA 7 f)) in
    let linking : Bool = from_link (relay_kind s) own r f in
    cond_both (eqb f.address own) ((relay_design s).command own r f) (cond (eqb f.address 0) (idle r) (cond linking ((relay_design s).status own r f) (idle r))) (Tells own r)
    (λ at. command_tells s own r f (sym (ap (λ b. b && asks) at) ∙ q))
    (λ away. cond_both (eqb f.address 0) (idle r) (cond linking ((relay_design s).status own r f) (idle r)) (Tells own r) (λ _. idle_tells own r)
    (λ _. cond_both linking ((relay_design s).status own r f) (idle r) (Tells own r) (λ t. absurd (both_ways linking l t)) (λ _. idle_tells own r)))
itself s own r Second q l = report_same own (contacts r) (all_ticked (contacts r)) ∙ ap (changes_told own (contacts r)) (sym (decoded r.cells (all_ticked (contacts r))))
itself s own r (Pushed p) q l = cond_both (eqb p.address own) (idle r) (idle r) (Tells own r) (λ _. idle_tells own r) (λ _. idle_tells own r)

-- the changes and the lamps of two sets of contacts
abbrev all_told : ℕ → Record → Frame → (ChannelNumber → Option PairNumber) → PerChannel Contact → List Frame
all_told own r f pair is =
    changes_told own (contacts r) is ++ in_turn (λ c. lamp_told r.cells f.address c (pair c) (of_channel c (contacts r)) (of_channel c is))

by_a_link : (s : RelaySetup) (own : ℕ) (r : Record) (f : Frame) (pair : ChannelNumber → Option PairNumber) → from_link (relay_kind s) own r f ≡ true → ((c : ChannelNumber) → Obeys r.cells c f (pair c)) →
    ((relay_kind s).acts own r (Heard f)).sent ≡ all_told own r f pair (contacts ((relay_kind s).acts own r (Heard f)).after)
by_a_link s own r f pair l h =
    let was = contacts r in
    let is = by_pairs s.timers (pairs r.cells f) was in
    let a = f.address in
    let found : (c : ChannelNumber) →
    lamp a (is_closed (of_channel c was)) (is_closed (of_channel c is)) (pair_bits r.cells (index c) (first_pair r.cells (index c) (query f))) ≡ lamp_told r.cells a c (pair c) (of_channel c was) (of_channel c is) =
    λ c.
    ap (λ p. lamp a (is_closed (of_channel c was)) (is_closed (of_channel c is)) (pair_bits r.cells (index c) p)) (pair_found r.cells c f (pair c) (h c))
    ∙ lamp_same r.cells a c (pair c) (of_channel c was) (of_channel c is) in
    let lit : lamps a (made was) (made is) (all_bits r.cells (pairs r.cells f)) ≡ in_turn (λ c. lamp_told r.cells a c (pair c) (of_channel c was) (of_channel c is)) =
    λ i. found channel_1 i ++ (found channel_2 i ++ (found channel_3 i ++ found channel_4 i)) in
    ap (λ o. o.sent) (at_link (relay_design s) own r f l)
    ∙ ((λ i. report_same own was is i ++ lit i) ∙ ap (all_told own r f pair) (sym (after_status s own r f l)))

asked_tells : (s : RelaySetup) (own : ℕ) (r : Record) (f : Frame) → f.address ≡ own → is_command 0xFA 2 f ≡ true →
    ((relay_kind s).acts own r (Heard f)).sent ≡ in_turn (λ c. where_so (is_named f c) (channel_status own c (of_channel c (contacts r))))
asked_tells s own r f e q =
    let other : (c m : ℕ) → eqb 0xFA c ≡ false → is_command c m f ≡ false = other_command 0xFA 2 f q in
    let x = contacts r in
    let w = named_channels f in
    let same : (c : ChannelNumber) → told own (bit_of c) (of_channel c w) (of_channel c x) ≡ where_so (is_named f c) (channel_status own c (of_channel c x)) =
    λ c. one_same c (of_channel c x) (of_channel c w) (is_named f c) (named f c) in
    ap (λ o. o.sent) (at_own (relay_design s) own r f e)
    ∙ (ap (λ t. t ++ answer own f (made x) (carried_out (commanded f) w x)) (no_memory own r.cells f (other 0xFD 3 refl) (other 0xC9 3 refl) (other 0xCA 7 refl))
    ∙ (cond-true (is_command 0xFA 2 f) _ _ q
    ∙ (ap (λ a. statuses own w (carried_out a w x)) (asks_none f (other 0x01 2 refl) (other 0x02 2 refl) (other 0x03 5 refl))
    ∙ (λ i. same channel_1 i ++ (same channel_2 i ++ (same channel_3 i ++ same channel_4 i))))))
  where
    one_same : (c : ChannelNumber) (x : Contact) (w n : Bool) → w ≡ n → told own (bit_of c) w x ≡ where_so n (channel_status own c x)
    one_same c opened w n e = ap (λ b. told own (bit_of c) b opened) e
    one_same c closed w n e = ap (λ b. told own (bit_of c) b closed) e
    one_same c (running k) w n e = ap (λ b. told own (bit_of c) b (running k)) e

pub reports_exactly : EveryRelay ReportsExactly
reports_exactly s =
    record {
      by_itself = itself s;
      linked = by_a_link s;
      some_obeyed = λ cells c f. (numbered (first_pair cells (index c) (query f)), found_pair cells c f (first_pair cells (index c) (query f)) refl);
      no_other = only_one;
      asked = asked_tells s;
    }
