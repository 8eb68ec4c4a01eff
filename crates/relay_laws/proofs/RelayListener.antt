-- Whoever listens to a relay has the right picture of its contacts. Assumes nothing.
use Rattle.std.proofs.Common.{◌≡◌, ℕ, ◌+◌, ◌/◌, ◌%◌, Bool, true, false, cond, not, ◌&&◌, ◌||◌, eqb, List, [], ◌∷◌, ◌++◌, sym, refl, ap, ◌∙◌}
use Rattle.std.specs.List.{AllByRecursion}
use Rattle.std.proofs.ByRecursion.{All-append}
use Rattle.std.proofs.lemmas.Bool.{cond-true, cond-false, cond_both, and_left, and_parts, eq-eqb, eqb-true}
use Rattle.bus.specs.declared.frame.Frame.{Frame}
use Rattle.bus.specs.Frames.{is_command, message}
use Rattle.bus.proofs.Commands.{other_command}
use Rattle.station.specs.declared.event.Event.{Event}
use Rattle.station.specs.declared.event.Event.TheVariants.{Heard, Second, Pushed}
use Rattle.station.specs.Kinds.{Record, Outcome, from_link}
use Rattle.station.specs.Rules.{stored}
use Rattle.module.specs.Designs.{idle}
use Rattle.module.specs.Memories.{memory_sent}
use Rattle.module.proofs.Sent.{all_one, all_memory}
use Rattle.relay.specs.declared.relay.RelaySetup.{RelaySetup}
use Rattle.relay.specs.declared.per_channel.PerChannel.{PerChannel}
use Rattle.relay.specs.Contacts.{Contact}
use Rattle.relay.specs.Relays.{contacts, commanded, named_channels, carried_out, answer, pairs, by_pairs, all_bits, all_ticked}
use Rattle.relay.specs.Relays.{design as relay_design}
use Rattle.relay.specs.Reports.{made, status_frame, told, statuses, report, lamps}
use Rattle.relay.specs.AllSent.{all_lamps}
use Rattle.relay.proofs.Decoded.{decoded}
use Rattle.laws.specs.Channels.{ChannelNumber, channel_1, channel_2, channel_3, channel_4, of_channel}
use Rattle.kinds.specs.Kinds.{relay_kind, EveryRelay}
use Rattle.relay_laws.specs.RelayReports.{is_made, closes, opens, channel_status, where_so, in_turn, bits_where, one_switch, changes_told}
use Rattle.relay_laws.specs.RelayListener.{picture, by_bytes, heard_one, heard, sent_over, ListenersAreRight}
use Rattle.relay_laws.proofs.RelayCommands.{asks_none}
use Rattle.relay_laws.proofs.RelayReports.{report_same}

-- a frame that is no 00 is not heeded
abbrev Unheeded : Frame → Type 0
Unheeded f = is_command 0x00 4 f ≡ false

none_heeded : (own : ℕ) (p : PerChannel Bool) (fs : List Frame) → AllByRecursion Unheeded fs → heard own p fs ≡ p
none_heeded own p [] h = refl
none_heeded own p (f ∷ fs) h =
    ap (λ q. heard own q fs) (cond-false (is_command 0x00 4 f && eqb f.address own) _ _ (and_left (is_command 0x00 4 f) (eqb f.address own) h.0)) ∙ none_heeded own p fs h.1

heard_append : (own : ℕ) (p : PerChannel Bool) (a b : List Frame) → heard own p (a ++ b) ≡ heard own (heard own p a) b
heard_append own p [] b = refl
heard_append own p (f ∷ a) b = heard_append own (heard_one own p f) a b

-- what comes first and is not heeded, and what comes last
first_unheeded : (own : ℕ) (p : PerChannel Bool) (a b : List Frame) → AllByRecursion Unheeded a → heard own p (a ++ b) ≡ heard own p b
first_unheeded own p a b h = heard_append own p a b ∙ ap (λ q. heard own q b) (none_heeded own p a h)

last_unheeded : (own : ℕ) (p : PerChannel Bool) (a b : List Frame) → AllByRecursion Unheeded b → heard own p (a ++ b) ≡ heard own p a
last_unheeded own p a b h = heard_append own p a b ∙ none_heeded own (heard own p a) b h

all_in_turn : (a b c d : List Frame) → AllByRecursion Unheeded a → AllByRecursion Unheeded b → AllByRecursion Unheeded c → AllByRecursion Unheeded d → AllByRecursion Unheeded (a ++ (b ++ (c ++ d)))
all_in_turn a b c d p q r s = All-append Unheeded a (b ++ (c ++ d)) p (All-append Unheeded b (c ++ d) q (All-append Unheeded c d r s))

-- the four bits of a byte
pub record Bits (n : ℕ) (a b c d : Bool) : Type 0 where
  pub one : eqb (n / 1 % 2) 1 ≡ a
  pub two : eqb (n / 2 % 2) 1 ≡ b
  pub three : eqb (n / 4 % 2) 1 ≡ c
  pub four : eqb (n / 8 % 2) 1 ≡ d

pub bits : (a b c d : Bool) → Bits (cond a 1 0 + (cond b 2 0 + (cond c 4 0 + cond d 8 0))) a b c d
bits true true true true = record { one = refl; two = refl; three = refl; four = refl }
bits true true true false = record { one = refl; two = refl; three = refl; four = refl }
bits true true false true = record { one = refl; two = refl; three = refl; four = refl }
bits true true false false = record { one = refl; two = refl; three = refl; four = refl }
bits true false true true = record { one = refl; two = refl; three = refl; four = refl }
bits true false true false = record { one = refl; two = refl; three = refl; four = refl }
bits true false false true = record { one = refl; two = refl; three = refl; four = refl }
bits true false false false = record { one = refl; two = refl; three = refl; four = refl }
bits false true true true = record { one = refl; two = refl; three = refl; four = refl }
bits false true true false = record { one = refl; two = refl; three = refl; four = refl }
bits false true false true = record { one = refl; two = refl; three = refl; four = refl }
bits false true false false = record { one = refl; two = refl; three = refl; four = refl }
bits false false true true = record { one = refl; two = refl; three = refl; four = refl }
bits false false true false = record { one = refl; two = refl; three = refl; four = refl }
bits false false false true = record { one = refl; two = refl; three = refl; four = refl }
bits false false false false = record { one = refl; two = refl; three = refl; four = refl }

-- one contact, by whether it is made before and after
one_seen : (was is : Bool) → cond (is && not was) true (cond (was && not is) false was) ≡ is
one_seen true true = refl
one_seen true false = refl
one_seen false true = refl
one_seen false false = refl

-- a 00 does to the picture what its bytes say; so does none where both are 0
switch_heard : (own on off : ℕ) (p : PerChannel Bool) → heard own p (one_switch own on off) ≡ by_bytes on off p
switch_heard own on off p =
    cond_both (not (eqb on 0 && eqb off 0)) (message 0 own (0x00 ∷ on ∷ off ∷ 0 ∷ []) ∷ []) [] (λ t. heard own p t ≡ by_bytes on off p)
    (λ _. cond-true (eqb own own) _ _ (eq-eqb own own refl))
    (λ e. none (and_parts (eqb on 0) (eqb off 0) (zero_bytes (eqb on 0 && eqb off 0) e)))
  where
    zero_bytes : (b : Bool) → not b ≡ false → b ≡ true
    zero_bytes true e = refl
    zero_bytes false e = sym e

    none : (eqb on 0 ≡ true) × (eqb off 0 ≡ true) → p ≡ by_bytes on off p
    none z = λ i. by_bytes (sym (eqb-true on 0 z.0) i) (sym (eqb-true off 0 z.1) i) p

pub told_heard : (own : ℕ) (was is : PerChannel Contact) → heard own (picture was) (changes_told own was is) ≡ picture is
told_heard own was is =
    let say : ChannelNumber → List Frame = λ c. where_so (closes (of_channel c was) (of_channel c is) || opens (of_channel c was) (of_channel c is)) (channel_status own c (of_channel c is)) in
    let on : ℕ = bits_where (λ c. closes (of_channel c was) (of_channel c is)) in
    let off : ℕ = bits_where (λ c. opens (of_channel c was) (of_channel c is)) in
    let unheeded : (c : ChannelNumber) → AllByRecursion Unheeded (say c) =
    λ c. all_one Unheeded (closes (of_channel c was) (of_channel c is) || opens (of_channel c was) (of_channel c is)) (channel_status own c (of_channel c is)) refl in
    let up = bits (closes was.one is.one) (closes was.two is.two) (closes was.three is.three) (closes was.four is.four) in
    let down = bits (opens was.one is.one) (opens was.two is.two) (opens was.three is.three) (opens was.four is.four) in
    first_unheeded own (picture was) (in_turn say) (one_switch own on off)
    (all_in_turn (say channel_1) (say channel_2) (say channel_3) (say channel_4) (unheeded channel_1) (unheeded channel_2) (unheeded channel_3) (unheeded channel_4))
    ∙ (switch_heard own on off (picture was)
    ∙ ((λ i.
    record {
      one = cond (up.one i) true (cond (down.one i) false (is_made was.one));
      two = cond (up.two i) true (cond (down.two i) false (is_made was.two));
      three = cond (up.three i) true (cond (down.three i) false (is_made was.three));
      four = cond (up.four i) true (cond (down.four i) false (is_made was.four));
    })
    ∙ (λ i.
    record {
      one = one_seen (is_made was.one) (is_made is.one) i;
      two = one_seen (is_made was.two) (is_made is.two) i;
      three = one_seen (is_made was.three) (is_made is.three) i;
      four = one_seen (is_made was.four) (is_made is.four) i;
    })))

-- the picture is right after an outcome
abbrev Right : ℕ → Record → Outcome → Type 0
Right own r o = heard own (picture (contacts r)) o.sent ≡ picture (contacts o.after)

report_heard : (own : ℕ) (was is : PerChannel Contact) → heard own (picture was) (report own (made was) is) ≡ picture is
report_heard own was is = ap (heard own (picture was)) (report_same own was is) ∙ told_heard own was is

idle_right : (own : ℕ) (r : Record) → Right own r (idle r)
idle_right own r = refl

unheeded_told : (own bit : ℕ) (w : Bool) (x : Contact) → AllByRecursion Unheeded (told own bit w x)
unheeded_told own bit w x = all_one Unheeded w (status_frame own bit x) refl

command_right : (s : RelaySetup) (own : ℕ) (r : Record) (f : Frame) → Right own r ((relay_design s).command own r f)
command_right s own r f =
    let was = contacts r in
    let w = named_channels f in
    let is = carried_out (commanded f) w was in
    let kept : is_command 0xFA 2 f ≡ true → is ≡ was =
    λ q. ap (λ a. carried_out a w was) (asks_none f (other_command 0xFA 2 f q 0x01 2 refl) (other_command 0xFA 2 f q 0x02 2 refl) (other_command 0xFA 2 f q 0x03 5 refl)) in
    first_unheeded own (picture was) (memory_sent own r.cells f) (answer own f (made was) is) (all_memory Unheeded own r.cells f refl refl)
    ∙ (cond_both (is_command 0xFA 2 f) (statuses own w is) (report own (made was) is) (λ t. heard own (picture was) t ≡ picture is)
    (λ q. none_heeded own (picture was) (statuses own w is)
    (all_in_turn _ _ _ _ (unheeded_told own 1 w.one is.one) (unheeded_told own 2 w.two is.two) (unheeded_told own 4 w.three is.three) (unheeded_told own 8 w.four is.four))
    ∙ ap picture (sym (kept q)))
    (λ _. report_heard own was is)
    ∙ ap picture (sym (decoded (stored r.cells f) is)))

status_right : (s : RelaySetup) (own : ℕ) (r : Record) (f : Frame) → Right own r ((relay_design s).status own r f)
status_right s own r f =
    let was = contacts r in
    let found = pairs r.cells f in
    let is = by_pairs s.timers found was in
    last_unheeded own (picture was) (report own (made was) is) (lamps f.address (made was) (made is) (all_bits r.cells found))
    (all_lamps Unheeded f.address (record { on = λ bits. refl; out = λ bits. refl }) (made was) (made is) (all_bits r.cells found))
    ∙ (report_heard own was is ∙ ap picture (sym (decoded r.cells is)))

event_right : (s : RelaySetup) (own : ℕ) (r : Record) (e : Event) → Right own r ((relay_kind s).acts own r e)
event_right s own r (Heard f) =
    let linking : Bool = from_link (relay_kind s) own r f in
    cond_both (eqb f.address own) ((relay_design s).command own r f) (cond (eqb f.address 0) (idle r) (cond linking ((relay_design s).status own r f) (idle r))) (Right own r)
    (λ _. command_right s own r f)
    (λ _. cond_both (eqb f.address 0) (idle r) (cond linking ((relay_design s).status own r f) (idle r)) (Right own r) (λ _. idle_right own r)
    (λ _. cond_both linking ((relay_design s).status own r f) (idle r) (Right own r) (λ _. status_right s own r f) (λ _. idle_right own r)))
event_right s own r Second = report_heard own (contacts r) (all_ticked (contacts r)) ∙ ap picture (sym (decoded r.cells (all_ticked (contacts r))))
event_right s own r (Pushed p) = cond_both (eqb p.address own) (idle r) (idle r) (Right own r) (λ _. idle_right own r) (λ _. idle_right own r)

pub listeners_are_right : EveryRelay ListenersAreRight
listeners_are_right s own r [] = refl
listeners_are_right s own r (e ∷ es) =
    let o = (relay_kind s).acts own r e in
    heard_append own (picture (contacts r)) o.sent (sent_over (relay_kind s) own o.after es)
    ∙ (ap (λ p. heard own p (sent_over (relay_kind s) own o.after es)) (event_right s own r e) ∙ listeners_are_right s own o.after es)
