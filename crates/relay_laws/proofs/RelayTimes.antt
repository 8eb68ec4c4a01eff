-- A time runs on while nothing is asked of the channel. Assumes nothing.
use Rattle.std.proofs.Common.{◌≡◌, ℕ, zero, suc, ◌-◌, ◌<◌, Bool, true, false, cond, not, ◌&&◌, ◌||◌, eqb, List, [], ◌∷◌, ◌++◌, None, sym, refl, ap, ◌∙◌, subst, inl, inr, arith}
use Rattle.std.specs.List.{AllByRecursion}
use Rattle.std.proofs.ByRecursion.{All-append}
use Rattle.std.proofs.lemmas.Bool.{cond-false, cond_both, and_cases, and_right, or_parts, ne_eqb, eqb-true, both_ways, false≢true}
use Rattle.bus.specs.declared.frame.Frame.{Frame}
use Rattle.bus.specs.Frames.{is_command, message}
use Rattle.station.specs.declared.event.Event.{Event}
use Rattle.station.specs.declared.event.Event.TheVariants.{Heard, Second, Pushed}
use Rattle.station.specs.Kinds.{Record, Outcome, from_link}
use Rattle.station.specs.Rules.{later, stored}
use Rattle.module.specs.Designs.{idle}
use Rattle.module.specs.Memories.{memory_sent}
use Rattle.module.proofs.Sent.{all_one, all_memory}
use Rattle.relay.specs.declared.relay.RelaySetup.{RelaySetup}
use Rattle.relay.specs.declared.per_channel.PerChannel.{PerChannel}
use Rattle.relay.specs.Contacts.{Contact, opened, running, is_closed, ticked, code}
use Rattle.relay.specs.Relays.{contacts, commanded, named_channels, carried, carried_out, answer, query, pairs, by_pair, by_pairs, all_bits, all_ticked}
use Rattle.relay.specs.Relays.{design as relay_design}
use Rattle.relay.specs.Reports.{made, status_frame, told, statuses, differ, changes, risen, switched, report, lamps}
use Rattle.relay.specs.AllSent.{all_lamps}
use Rattle.relay.specs.Tables.{first_pair}
use Rattle.relay.proofs.Decoded.{decoded}
use Rattle.laws.specs.Channels.{ChannelNumber, channel_1, channel_2, channel_3, channel_4, index, of_channel}
use Rattle.laws.specs.Times.{ticked_for, Ran}
use Rattle.laws.proofs.Times.{time_ends}
use Rattle.kinds.specs.Kinds.{relay_kind, EveryRelay}
use Rattle.relay_laws.specs.RelayCommands.{is_named}
use Rattle.relay_laws.specs.RelayReports.{bit_of, channel_status}
use Rattle.relay_laws.specs.RelayPairs.{NoneFits}
use Rattle.relay_laws.specs.RelayListener.{sent_over}
use Rattle.relay_laws.specs.RelayTimes.{AsksNothing, NoneAsks, has_channel, IsIn, TellsNoEnd, TellsEnd, TimesRun, ChannelsStay}
use Rattle.laws.specs.Numbers.{seconds_among}
use Rattle.relay_laws.proofs.RelayCommands.{named, asks_none, unnamed_kept}
use Rattle.relay_laws.proofs.RelayPairs.{pair_found}
use Rattle.relay_laws.proofs.RelayListener.{Bits, bits}

-- each channel after a command, a status and a second
each_carried : (f : Frame) (c : ChannelNumber) (x : PerChannel Contact) → of_channel c (carried_out (commanded f) (named_channels f) x) ≡ carried (commanded f) (is_named f c) (of_channel c x)
each_carried f c x = each c ∙ ap (λ b. carried (commanded f) b (of_channel c x)) (named f c)
  where
    each : (c : ChannelNumber) → of_channel c (carried_out (commanded f) (named_channels f) x) ≡ carried (commanded f) (of_channel c (named_channels f)) (of_channel c x)
    each channel_1 = refl
    each channel_2 = refl
    each channel_3 = refl
    each channel_4 = refl

each_paired : (s : RelaySetup) (cells : List ℕ) (f : Frame) (c : ChannelNumber) (x : PerChannel Contact) →
    of_channel c (by_pairs s.timers (pairs cells f) x) ≡ by_pair (of_channel c s.timers) (first_pair cells (index c) (query f)) (of_channel c x)
each_paired s cells f channel_1 x = refl
each_paired s cells f channel_2 x = refl
each_paired s cells f channel_3 x = refl
each_paired s cells f channel_4 x = refl

each_ticked : (c : ChannelNumber) (x : PerChannel Contact) → of_channel c (all_ticked x) ≡ ticked (of_channel c x)
each_ticked channel_1 x = refl
each_ticked channel_2 x = refl
each_ticked channel_3 x = refl
each_ticked channel_4 x = refl

-- where nothing is asked of a channel, it stays
command_keeps : (f : Frame) (c : ChannelNumber) (x : PerChannel Contact) → ((is_command 0x01 2 f || (is_command 0x02 2 f || is_command 0x03 5 f)) && is_named f c) ≡ false →
    of_channel c (carried_out (commanded f) (named_channels f) x) ≡ of_channel c x
command_keeps f c x h =
    each_carried f c x
    ∙ elim (and_cases (is_command 0x01 2 f || (is_command 0x02 2 f || is_command 0x03 5 f)) (is_named f c) h) [
      | inl none ↦
          let a = or_parts (is_command 0x01 2 f) (is_command 0x02 2 f || is_command 0x03 5 f) none in
          let b = or_parts (is_command 0x02 2 f) (is_command 0x03 5 f) a.1 in
          ap (λ t. carried t (is_named f c) (of_channel c x)) (asks_none f a.0 b.0 b.1)
      | inr unnamed ↦ ap (λ b. carried (commanded f) b (of_channel c x)) unnamed ∙ unnamed_kept (commanded f) (of_channel c x)
    ]

status_keeps : (s : RelaySetup) (cells : List ℕ) (f : Frame) (c : ChannelNumber) (x : PerChannel Contact) → NoneFits cells c f →
    of_channel c (by_pairs s.timers (pairs cells f) x) ≡ of_channel c x
status_keeps s cells f c x h = each_paired s cells f c x ∙ ap (λ p. by_pair (of_channel c s.timers) p (of_channel c x)) (pair_found cells c f None h)

-- what an event that asks nothing makes of a running channel's frames and of the channel
record Passes (c : ChannelNumber) (r : Record) (x : Contact) (o : Outcome) : Type 0 where
  leaves : of_channel c (contacts o.after) ≡ x
  tells : (m n : ℕ) → of_channel c (contacts r) ≡ running m → x ≡ running n → AllByRecursion (TellsNoEnd c) o.sent

-- frames that are neither a 00 nor an FB
other_frame : (c : ChannelNumber) (g : Frame) → is_command 0x00 4 g ≡ false → is_command 0xFB 8 g ≡ false → TellsNoEnd c g
other_frame c g a b = record { no_switch = λ e. absurd (both_ways (is_command 0x00 4 g) a e); still_runs = λ e. absurd (both_ways (is_command 0xFB 8 g) b e) }

-- a status tells of no end of a running channel
status_tells : (own : ℕ) (c d : ChannelNumber) (x : PerChannel Contact) → code (of_channel c x) ≡ 3 → TellsNoEnd c (status_frame own (bit_of d) (of_channel d x))
status_tells own c d x h = record { no_switch = λ e. absurd (false≢true e); still_runs = λ _. same c d h }
  where
    same : (c d : ChannelNumber) → code (of_channel c x) ≡ 3 → bit_of d ≡ bit_of c → code (of_channel d x) ≡ 3
    same channel_1 channel_1 h e = h
    same channel_1 channel_2 h e = absurd (omega arith)
    same channel_1 channel_3 h e = absurd (omega arith)
    same channel_1 channel_4 h e = absurd (omega arith)
    same channel_2 channel_1 h e = absurd (omega arith)
    same channel_2 channel_2 h e = h
    same channel_2 channel_3 h e = absurd (omega arith)
    same channel_2 channel_4 h e = absurd (omega arith)
    same channel_3 channel_1 h e = absurd (omega arith)
    same channel_3 channel_2 h e = absurd (omega arith)
    same channel_3 channel_3 h e = h
    same channel_3 channel_4 h e = absurd (omega arith)
    same channel_4 channel_1 h e = absurd (omega arith)
    same channel_4 channel_2 h e = absurd (omega arith)
    same channel_4 channel_3 h e = absurd (omega arith)
    same channel_4 channel_4 h e = h

statuses_tell : (own : ℕ) (c : ChannelNumber) (w : PerChannel Bool) (x : PerChannel Contact) → code (of_channel c x) ≡ 3 → AllByRecursion (TellsNoEnd c) (statuses own w x)
statuses_tell own c w x h =
    let P : Frame → Type 0 = TellsNoEnd c in
    let one : (d : ChannelNumber) (b : Bool) → AllByRecursion P (told own (bit_of d) b (of_channel d x)) = λ d b. all_one P b (status_frame own (bit_of d) (of_channel d x)) (status_tells own c d x h) in
    All-append P (told own 1 w.one x.one) _ (one channel_1 w.one)
    (All-append P (told own 2 w.two x.two) _ (one channel_2 w.two)
    (All-append P (told own 4 w.three x.three) (told own 8 w.four x.four) (one channel_3 w.three) (one channel_4 w.four)))

-- the bit of a channel in the byte of those that rose
rose : (was is : PerChannel Bool) (c : ChannelNumber) → has_channel (risen was is) c ≡ (of_channel c is && not (of_channel c was))
rose was is c = by c
  where
    byte : Bits (risen was is) (is.one && not was.one) (is.two && not was.two) (is.three && not was.three) (is.four && not was.four)
    byte = bits (is.one && not was.one) (is.two && not was.two) (is.three && not was.three) (is.four && not was.four)

    by : (c : ChannelNumber) → has_channel (risen was is) c ≡ (of_channel c is && not (of_channel c was))
    by channel_1 = byte.one
    by channel_2 = byte.two
    by channel_3 = byte.three
    by channel_4 = byte.four

each_made : (c : ChannelNumber) (x : PerChannel Contact) → of_channel c (made x) ≡ is_closed (of_channel c x)
each_made channel_1 x = refl
each_made channel_2 x = refl
each_made channel_3 x = refl
each_made channel_4 x = refl

made_as : (c : ChannelNumber) (x : PerChannel Contact) (y : Contact) → of_channel c x ≡ y → of_channel c (made x) ≡ is_closed y
made_as c x y e = each_made c x ∙ ap is_closed e

report_tells : (own : ℕ) (c : ChannelNumber) (was is : PerChannel Contact) (m n : ℕ) → of_channel c was ≡ running m → of_channel c is ≡ running n → AllByRecursion (TellsNoEnd c) (report own (made was) is)
report_tells own c was is m n e g =
    let P : Frame → Type 0 = TellsNoEnd c in
    let on : ℕ = risen (made was) (made is) in
    let off : ℕ = risen (made is) (made was) in
    let not_on : has_channel on c ≡ false = rose (made was) (made is) c ∙ (λ i. made_as c is (running n) g i && not (made_as c was (running m) e i)) in
    let not_off : has_channel off c ≡ false = rose (made is) (made was) c ∙ (λ i. made_as c was (running m) e i && not (made_as c is (running n) g i)) in
    All-append P (statuses own (changes (made was) (made is)) is) (switched own (made was) (made is)) (statuses_tell own c (changes (made was) (made is)) is (ap code g))
    (cond_both (eqb on 0 && eqb off 0) [] (message 0 own (0x00 ∷ on ∷ off ∷ 0 ∷ []) ∷ []) (AllByRecursion P) (λ _. tt)
    (λ _. (record { no_switch = λ _. (not_on, not_off); still_runs = λ e. absurd (false≢true e) }, tt)))

idle_passes : (c : ChannelNumber) (r : Record) → Passes c r (of_channel c (contacts r)) (idle r)
idle_passes c r = record { leaves = refl; tells = λ m n e g. tt }

command_passes : (s : RelaySetup) (own : ℕ) (r : Record) (f : Frame) (c : ChannelNumber) →
    ((is_command 0x01 2 f || (is_command 0x02 2 f || is_command 0x03 5 f)) && is_named f c) ≡ false → Passes c r (of_channel c (contacts r)) ((relay_design s).command own r f)
command_passes s own r f c h =
    let P : Frame → Type 0 = TellsNoEnd c in
    let was = contacts r in
    let w = named_channels f in
    let is = carried_out (commanded f) w was in
    let kept : of_channel c is ≡ of_channel c was = command_keeps f c was h in
    record {
      leaves = ap (of_channel c) (decoded (stored r.cells f) is) ∙ kept;
      tells = λ m n e g.
          All-append P (memory_sent own r.cells f) (answer own f (made was) is) (all_memory P own r.cells f (other_frame c _ refl refl) (other_frame c _ refl refl))
          (cond_both (is_command 0xFA 2 f) (statuses own w is) (report own (made was) is) (AllByRecursion P) (λ _. statuses_tell own c w is (ap code (kept ∙ e)))
          (λ _. report_tells own c was is m n e (kept ∙ g)));
    }

status_passes : (s : RelaySetup) (own : ℕ) (r : Record) (f : Frame) (c : ChannelNumber) → NoneFits r.cells c f → Passes c r (of_channel c (contacts r)) ((relay_design s).status own r f)
status_passes s own r f c h =
    let P : Frame → Type 0 = TellsNoEnd c in
    let was = contacts r in
    let found = pairs r.cells f in
    let is = by_pairs s.timers found was in
    let kept : of_channel c is ≡ of_channel c was = status_keeps s r.cells f c was h in
    record {
      leaves = ap (of_channel c) (decoded r.cells is) ∙ kept;
      tells = λ m n e g.
          All-append P (report own (made was) is) (lamps f.address (made was) (made is) (all_bits r.cells found)) (report_tells own c was is m n e (kept ∙ g))
          (all_lamps P f.address (record { on = λ bits. other_frame c _ refl refl; out = λ bits. other_frame c _ refl refl }) (made was) (made is) (all_bits r.cells found));
    }

-- what a channel is after an event that asks nothing of it
abbrev passed : Event → Contact → Contact
passed (Heard f) x = x
passed Second x = ticked x
passed (Pushed p) x = x

event_passes : (s : RelaySetup) (own : ℕ) (c : ChannelNumber) (r : Record) (e : Event) → AsksNothing (relay_kind s) own c r e → Passes c r (passed e (of_channel c (contacts r))) ((relay_kind s).acts own r e)
event_passes s own c r (Heard f) h =
    let linking : Bool = from_link (relay_kind s) own r f in
    let P : Outcome → Type 0 = Passes c r (of_channel c (contacts r)) in
    cond_both (eqb f.address own) ((relay_design s).command own r f) (cond (eqb f.address 0) (idle r) (cond linking ((relay_design s).status own r f) (idle r))) P
    (λ at. command_passes s own r f c (h.0 (eqb-true f.address own at)))
    (λ _. cond_both (eqb f.address 0) (idle r) (cond linking ((relay_design s).status own r f) (idle r)) P (λ _. idle_passes c r)
    (λ _. cond_both linking ((relay_design s).status own r f) (idle r) P (λ l. status_passes s own r f c (h.1 l)) (λ _. idle_passes c r)))
event_passes s own c r Second h =
    let is = all_ticked (contacts r) in
    record {
      leaves = ap (of_channel c) (decoded r.cells is) ∙ each_ticked c (contacts r);
      tells = λ m n e g. report_tells own c (contacts r) is m n e (each_ticked c (contacts r) ∙ g);
    }
event_passes s own c r (Pushed p) h = cond_both (eqb p.address own) (idle r) (idle r) (Passes c r (of_channel c (contacts r))) (λ _. idle_passes c r) (λ _. idle_passes c r)

module _ (s : RelaySetup) (own : ℕ) (c : ChannelNumber) where
  later_channel : (r : Record) (es : List Event) → NoneAsks (relay_kind s) own c r es → of_channel c (contacts (later (relay_kind s) own r es)) ≡ ticked_for (seconds_among es) (of_channel c (contacts r))
  later_channel r [] h = refl
  later_channel r (Heard f ∷ es) h = later_channel ((relay_kind s).acts own r (Heard f)).after es h.1 ∙ ap (ticked_for (seconds_among es)) (event_passes s own c r (Heard f) h.0).leaves
  later_channel r (Second ∷ es) h = later_channel ((relay_kind s).acts own r Second).after es h.1 ∙ ap (ticked_for (seconds_among es)) (event_passes s own c r Second h.0).leaves
  later_channel r (Pushed p ∷ es) h = later_channel ((relay_kind s).acts own r (Pushed p)).after es h.1 ∙ ap (ticked_for (seconds_among es)) (event_passes s own c r (Pushed p) h.0).leaves

  later_tells : (r : Record) (n : ℕ) (es : List Event) → of_channel c (contacts r) ≡ running n → NoneAsks (relay_kind s) own c r es → seconds_among es < n → AllByRecursion (TellsNoEnd c) (sent_over (relay_kind s) own r es)
  later_tells r n [] e h l = tt
  later_tells r n (Heard f ∷ es) e h l =
      let p = event_passes s own c r (Heard f) h.0 in
      let o = (relay_kind s).acts own r (Heard f) in
      All-append (TellsNoEnd c) o.sent (sent_over (relay_kind s) own o.after es) (p.tells n n e e) (later_tells o.after n es (p.leaves ∙ e) h.1 l)
  later_tells r n (Second ∷ es) e h l =
      let p = event_passes s own c r Second h.0 in
      let o = (relay_kind s).acts own r Second in
      let next : ticked (of_channel c (contacts r)) ≡ running (n - 1) = ap ticked e ∙ (time_ends n 1 (omega arith)).before (omega arith) in
      All-append (TellsNoEnd c) o.sent (sent_over (relay_kind s) own o.after es) (p.tells n (n - 1) e next) (later_tells o.after (n - 1) es (p.leaves ∙ next) h.1 (omega arith))
  later_tells r n (Pushed q ∷ es) e h l =
      let p = event_passes s own c r (Pushed q) h.0 in
      let o = (relay_kind s).acts own r (Pushed q) in
      All-append (TellsNoEnd c) o.sent (sent_over (relay_kind s) own o.after es) (p.tells n n e e) (later_tells o.after n es (p.leaves ∙ e) h.1 l)

-- one of a list
in_left : (g : Frame) (a b : List Frame) → IsIn g a → IsIn g (a ++ b)
in_left g [] b h = absurd h
in_left g (f ∷ a) b h = elim h [ inl e ↦ inl e | inr t ↦ inr (in_left g a b t) ]

in_right : (g : Frame) (a b : List Frame) → IsIn g b → IsIn g (a ++ b)
in_right g [] b h = h
in_right g (f ∷ a) b h = inr (in_right g a b h)

-- the last second
end_told : (s : RelaySetup) (own : ℕ) (c : ChannelNumber) (r : Record) → of_channel c (contacts r) ≡ running 1 → TellsEnd own c ((relay_design s).second own r).sent
end_told s own c r e =
    let was = contacts r in
    let is = all_ticked was in
    let now : of_channel c is ≡ opened = each_ticked c was ∙ ap ticked e in
    let on : ℕ = risen (made was) (made is) in
    let off : ℕ = risen (made is) (made was) in
    let not_on : has_channel on c ≡ false = rose (made was) (made is) c ∙ (λ i. made_as c is opened now i && not (made_as c was (running 1) e i)) in
    let is_off : has_channel off c ≡ true = rose (made is) (made was) c ∙ (λ i. made_as c was (running 1) e i && not (made_as c is opened now i)) in
    let some : eqb off 0 ≡ false = ne_eqb off 0 (λ z. nothing c (ap (λ n. has_channel n c) (sym z) ∙ is_off)) in
    let g = message 0 own (0x00 ∷ on ∷ off ∷ 0 ∷ []) in
    record {
      status = in_left (channel_status own c opened) (statuses own (changes (made was) (made is)) is) (switched own (made was) (made is)) (place c was is e now);
      on = on;
      off = off;
      switch = in_right g (statuses own (changes (made was) (made is)) is) (switched own (made was) (made is))
          (subst (IsIn g) (sym (cond-false (eqb on 0 && eqb off 0) [] (g ∷ []) (and_right (eqb on 0) (eqb off 0) some))) (inl refl));
      in_opened = is_off;
      not_in_closed = not_on;
    }
  where
    nothing : (c : ChannelNumber) → has_channel 0 c ≡ true → ⊥
    nothing channel_1 e = false≢true e
    nothing channel_2 e = false≢true e
    nothing channel_3 e = false≢true e
    nothing channel_4 e = false≢true e

    here : (c : ChannelNumber) (x y : Contact) → x ≡ running 1 → y ≡ opened → IsIn (channel_status own c opened) (told own (bit_of c) (differ (is_closed x) (is_closed y)) y)
    here c x y e now = subst (IsIn (channel_status own c opened)) (λ i. told own (bit_of c) (differ (is_closed (sym e i)) (is_closed (sym now i))) (sym now i)) (inl refl)

    place : (c : ChannelNumber) (was is : PerChannel Contact) → of_channel c was ≡ running 1 → of_channel c is ≡ opened → IsIn (channel_status own c opened) (statuses own (changes (made was) (made is)) is)
    place channel_1 was is e now = in_left _ _ _ (here channel_1 was.one is.one e now)
    place channel_2 was is e now = in_right _ (told own 1 (differ (is_closed was.one) (is_closed is.one)) is.one) _ (in_left _ _ _ (here channel_2 was.two is.two e now))
    place channel_3 was is e now =
        in_right _ (told own 1 (differ (is_closed was.one) (is_closed is.one)) is.one) _
        (in_right _ (told own 2 (differ (is_closed was.two) (is_closed is.two)) is.two) _ (in_left _ _ _ (here channel_3 was.three is.three e now)))
    place channel_4 was is e now =
        in_right _ (told own 1 (differ (is_closed was.one) (is_closed is.one)) is.one) _
        (in_right _ (told own 2 (differ (is_closed was.two) (is_closed is.two)) is.two) _
        (in_right _ (told own 4 (differ (is_closed was.three) (is_closed is.three)) is.three) _ (here channel_4 was.four is.four e now)))

pub times_run : EveryRelay TimesRun
times_run s own r c n es p e h =
    let k : ℕ = seconds_among es in
    let ran : Ran n k (of_channel c (contacts (later (relay_kind s) own r es))) = subst (Ran n k) (sym (later_channel s own c r es h ∙ ap (ticked_for k) e)) (time_ends n k p) in
    record {
      before = ran.before;
      told_before = later_tells s own c r n es e h;
      over = ran.over;
      told_then = λ last.
          let one : n - k ≡ 1 = omega arith in
          end_told s own c (later (relay_kind s) own r es) (ran.before (omega arith) ∙ ap running one);
    }

-- seconds make nothing of a channel without a time
without_time : (k : ℕ) (x : Contact) → ticked x ≡ x → ticked_for k x ≡ x
without_time zero x h = refl
without_time (suc k) x h = ap (ticked_for k) h ∙ without_time k x h

pub channels_stay : EveryRelay ChannelsStay
channels_stay s own r c x es sort e h =
    let k : ℕ = seconds_among es in
    let still : ticked x ≡ x = elim sort [ inl o ↦ ap ticked o ∙ sym o | inr o ↦ ap ticked o ∙ sym o ] in
    later_channel s own c r es h ∙ (ap (ticked_for k) e ∙ without_time k x still)
