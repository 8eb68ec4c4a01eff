-- Which state bytes modules have, and how those of relays and button interfaces are read. Assumes nothing.
use Rattle.std.proofs.Common.{◌≡◌, ℕ, zero, suc, ◌+◌, ◌-◌, ◌*◌, ◌/◌, ◌%◌, ◌<◌, Bool, ◌⊎◌, eqb, leb, List, [], ◌∷◌, ◌++◌, length, drop, get_or, Some, None, Option, inl, inr, sym, refl, ap, ◌∙◌, subst, arith}
use Rattle.std.specs.List.{AllByRecursion}
use Rattle.std.proofs.lemmas.Bool.{cond-true, cond-false, cond_both, eq-eqb}
use Rattle.std.proofs.lemmas.List.{drop_more, drop_all}
use Rattle.station.specs.declared.event.Event.{Event}
use Rattle.station.specs.declared.event.Event.TheVariants.{Heard, Second, Pushed}
use Rattle.station.specs.Kinds.{Record, Kind, Outcome}
use Rattle.station.specs.Rules.{later}
use Rattle.module.specs.Designs.{idle}
use Rattle.panel.specs.Panels.{lamps, pressed}
use Rattle.panel.specs.Panels.{state_of as panel_state, design as panel_design}
use Rattle.relay.specs.declared.action.Action.{Action}
use Rattle.relay.specs.declared.action.Action.TheVariants.{Clear, Set, Toggle, ToggleTimer, Start}
use Rattle.relay.specs.declared.per_channel.PerChannel.{PerChannel}
use Rattle.relay.specs.declared.relay.RelaySetup.{RelaySetup}
use Rattle.relay.specs.declared.timers.Timers.{Timers}
use Rattle.relay.specs.Channels.{Each}
use Rattle.relay.specs.Contacts.{Contact, opened, closed, running, in_range, obeyed, ticked, code, time, contact_bytes, contact_at}
use Rattle.relay.specs.Relays.{state_of, contacts, commanded, named_channels, carried, carried_out, by_pair, by_pairs, pairs, all_ticked}
use Rattle.relay.specs.Relays.{design as relay_design}
use Rattle.relay.specs.Tables.{action_of}
use Rattle.laws.specs.Channels.{ChannelNumber, channel_1, channel_2, channel_3, channel_4, index, of_channel}
use Rattle.kinds.specs.Kinds.{relay_kind, panel_kind, EveryRelay, EveryPanel}
use Rattle.module_laws.specs.StateBytes.{Stand, StandRunning, RelayBytes, PanelBytes, OfBytes, HasAlways, ChannelsAreRead, ChannelWritten, ChannelsAreWritten}

-- n numbers of a list from a place on
abbrev pub part : List ℕ → ℕ → ℕ → List ℕ
part s a zero = []
part s a (suc n) = get_or s a 0 ∷ part s (a + 1) n

pub spread : (s : List ℕ) (a n : ℕ) → a + n ≡ length s → drop a s ≡ part s a n
spread s a zero e = drop_all a s (omega (arith, e))
spread s a (suc n) e = drop_more s a 0 (omega (arith, e)) ∙ ap (λ t. get_or s a 0 ∷ t) (spread s (a + 1) n (omega (arith, e)))

-- the four bytes of a channel
abbrev ChannelBytes : List ℕ → ℕ → Type 0
ChannelBytes s i = Stand s i 0 0 0 0 ⊎ (Stand s i 1 0 0 0 ⊎ StandRunning s i)

module _ (s : List ℕ) (i : ℕ) where
  read_open : get_or s i 0 ≡ 0 → contact_at s i ≡ opened
  read_open e = cond-true (eqb (get_or s i 0) 0) _ _ (eq-eqb _ _ e)

  read_closed : get_or s i 0 ≡ 1 → contact_at s i ≡ closed
  read_closed e = cond-false (eqb (get_or s i 0) 0) _ _ (ap (λ n. eqb n 0) e) ∙ cond-true (eqb (get_or s i 0) 1) _ _ (eq-eqb _ _ e)

  read_running : get_or s i 0 ≡ 3 → contact_at s i ≡ running (get_or s (i + 1) 0 * 65536 + get_or s (i + 2) 0 * 256 + get_or s (i + 3) 0)
  read_running e = cond-false (eqb (get_or s i 0) 0) _ _ (ap (λ n. eqb n 0) e) ∙ cond-false (eqb (get_or s i 0) 1) _ _ (ap (λ n. eqb n 1) e)

  abbrev four : List ℕ
  four = get_or s i 0 ∷ get_or s (i + 1) 0 ∷ get_or s (i + 2) 0 ∷ get_or s (i + 3) 0 ∷ []

  pub written_back : ChannelBytes s i → contact_bytes (contact_at s i) ≡ four
  written_back (inl z) = ap contact_bytes (read_open z.first) ∙ (λ j. sym z.first j ∷ sym z.second j ∷ sym z.third j ∷ sym z.fourth j ∷ [])
  written_back (inr (inl z)) = ap contact_bytes (read_closed z.first) ∙ (λ j. sym z.first j ∷ sym z.second j ∷ sym z.third j ∷ sym z.fourth j ∷ [])
  written_back (inr (inr z)) =
      let h = get_or s (i + 1) 0 in
      let m = get_or s (i + 2) 0 in
      let l = get_or s (i + 3) 0 in
      let high : (h * 65536 + m * 256 + l) / 65536 ≡ h = omega (arith, z.third, z.fourth) in
      let mid : (h * 65536 + m * 256 + l) / 256 % 256 ≡ m = omega (arith, z.third, z.fourth) in
      let low : (h * 65536 + m * 256 + l) % 256 ≡ l = omega (arith, z.third, z.fourth) in
      ap contact_bytes (read_running z.first) ∙ (λ j. sym z.first j ∷ high j ∷ mid j ∷ low j ∷ [])

-- a relay's state bytes are those of the channels that they tell
pub relay_told : (r : Record) → RelayBytes r.state → state_of (contacts r) ≡ r.state
relay_told r h =
    let s = r.state in
    (λ j. written_back s 0 (h.channel channel_1) j ++ (written_back s 4 (h.channel channel_2) j ++ (written_back s 8 (h.channel channel_3) j ++ written_back s 12 (h.channel channel_4) j)))
    ∙ sym (spread s 0 16 (sym h.count))

-- a time of three bytes
abbrev Short : Contact → Type 0
Short opened = Unit
Short closed = Unit
Short (running n) = n < 16777216

short_at : (s : List ℕ) (i : ℕ) → ChannelBytes s i → Short (contact_at s i)
short_at s i (inl z) = subst Short (sym (read_open s i z.first)) tt
short_at s i (inr (inl z)) = subst Short (sym (read_closed s i z.first)) tt
short_at s i (inr (inr z)) = subst Short (sym (read_running s i z.first)) (omega (arith, z.second, z.third, z.fourth))

all_short : (r : Record) → RelayBytes r.state → Each Short (contacts r)
all_short r h =
    let s = r.state in
    record { one = short_at s 0 (h.channel channel_1); two = short_at s 4 (h.channel channel_2); three = short_at s 8 (h.channel channel_3); four = short_at s 12 (h.channel channel_4) }

bytes_of : (x : Contact) → Short x → (s : List ℕ) (i : ℕ) → Stand s i (code x) (time x / 65536) (time x / 256 % 256) (time x % 256) → ChannelBytes s i
bytes_of opened h s i z = inl z
bytes_of closed h s i z = inr (inl z)
bytes_of (running n) h s i z =
    inr (inr (record { first = z.first; second = omega (arith, z.second, h); third = omega (arith, z.third); fourth = omega (arith, z.fourth) }))

relay_bytes : (x : PerChannel Contact) → Each Short x → RelayBytes (state_of x)
relay_bytes x h = record { count = refl; channel = by }
  where
    by : (c : ChannelNumber) → ChannelBytes (state_of x) (4 * index c)
    by channel_1 = bytes_of x.one h.one (state_of x) 0 (record { first = refl; second = refl; third = refl; fourth = refl })
    by channel_2 = bytes_of x.two h.two (state_of x) 4 (record { first = refl; second = refl; third = refl; fourth = refl })
    by channel_3 = bytes_of x.three h.three (state_of x) 8 (record { first = refl; second = refl; third = refl; fourth = refl })
    by channel_4 = bytes_of x.four h.four (state_of x) 12 (record { first = refl; second = refl; third = refl; fourth = refl })

short_range : (n : ℕ) → in_range n < 16777216
short_range n = omega arith

short_obeyed : (a : Action) (x : Contact) → Short x → Short (obeyed a x)
short_obeyed Clear x h = tt
short_obeyed Set x h = tt
short_obeyed Toggle opened h = tt
short_obeyed Toggle closed h = tt
short_obeyed Toggle (running n) h = tt
short_obeyed (ToggleTimer t) opened h = short_range t
short_obeyed (ToggleTimer t) closed h = tt
short_obeyed (ToggleTimer t) (running n) h = tt
short_obeyed (Start t) x h = short_range t

short_ticked : (x : Contact) → Short x → Short (ticked x)
short_ticked opened h = tt
short_ticked closed h = tt
short_ticked (running n) h = cond_both (leb n 1) opened (running (n - 1)) Short (λ _. tt) (λ _. omega (arith, h))

short_carried : (a : Option Action) (w : Bool) (x : Contact) → Short x → Short (carried a w x)
short_carried None w x h = h
short_carried (Some a) w x h = cond_both w (obeyed a x) x Short (λ _. short_obeyed a x h) (λ _. h)

short_by_pair : (t : Timers) (p : Option ℕ) (x : Contact) → Short x → Short (by_pair t p x)
short_by_pair t None x h = h
short_by_pair t (Some p) x h = short_obeyed (action_of t p) x h

relay_after : (s : RelaySetup) (own : ℕ) (r : Record) (e : Event) → RelayBytes r.state → RelayBytes ((relay_kind s).acts own r e).after.state
relay_after s own r (Heard f) h =
    let was = contacts r in
    let x = all_short r h in
    let a = commanded f in
    let w = named_channels f in
    let t = s.timers in
    let p = pairs r.cells f in
    let P : Outcome → Type 0 = λ o. RelayBytes o.after.state in
    cond_both (eqb f.address own) ((relay_design s).command own r f) _ P
    (λ _. relay_bytes (carried_out a w was)
    (record { one = short_carried a w.one was.one x.one; two = short_carried a w.two was.two x.two; three = short_carried a w.three was.three x.three; four = short_carried a w.four was.four x.four }))
    (λ _. cond_both (eqb f.address 0) (idle r) _ P (λ _. h)
    (λ _. cond_both _ ((relay_design s).status own r f) (idle r) P
    (λ _. relay_bytes (by_pairs t p was)
    (record { one = short_by_pair t.one p.one was.one x.one; two = short_by_pair t.two p.two was.two x.two; three = short_by_pair t.three p.three was.three x.three; four = short_by_pair t.four p.four was.four x.four }))
    (λ _. h)))
relay_after s own r Second h =
    let was = contacts r in
    let x = all_short r h in
    relay_bytes (all_ticked was)
    (record { one = short_ticked was.one x.one; two = short_ticked was.two x.two; three = short_ticked was.three x.three; four = short_ticked was.four x.four })
relay_after s own r (Pushed p) h = cond_both (eqb p.address own) (idle r) (idle r) (λ o. RelayBytes o.after.state) (λ _. h) (λ _. h)

-- what holds at first and after each event holds after all
pub always_so : (k : Kind) (Such : List ℕ → Type 0) (own : ℕ) → ((r : Record) (e : Event) → OfBytes e → Such r.state → Such (k.acts own r e).after.state) → (r : Record) (es : List Event) → AllByRecursion OfBytes es → Such r.state → Such (later k own r es).state
always_so k Such own step r [] all h = h
always_so k Such own step r (e ∷ es) all h = always_so k Such own step (k.acts own r e).after es all.1 (step r e all.0 h)

new_relay : RelayBytes (0 ∷ 0 ∷ 0 ∷ 0 ∷ 0 ∷ 0 ∷ 0 ∷ 0 ∷ 0 ∷ 0 ∷ 0 ∷ 0 ∷ 0 ∷ 0 ∷ 0 ∷ 0 ∷ [])
new_relay = relay_bytes (record { one = opened; two = opened; three = opened; four = opened }) (record { one = tt; two = tt; three = tt; four = tt })

pub relay_always : EveryRelay (HasAlways RelayBytes 16)
relay_always s =
    record {
      new = λ own. new_relay;
      after = λ own r e b h. relay_after s own r e h;
      always = λ own es all. always_so (relay_kind s) RelayBytes own (λ r e b h. relay_after s own r e h) _ es all new_relay;
    }

panel_after : EveryPanel (λ k. (own : ℕ) (r : Record) (e : Event) → PanelBytes r.state → PanelBytes (k.acts own r e).after.state)
panel_after s own r (Heard f) h =
    let P : Outcome → Type 0 = λ o. PanelBytes o.after.state in
    cond_both (eqb f.address own) ((panel_design s).command own r f) _ P (λ _. refl)
    (λ _. cond_both (eqb f.address 0) (idle r) _ P (λ _. h) (λ _. cond_both _ (idle r) (idle r) P (λ _. h) (λ _. h)))
panel_after s own r Second h = h
panel_after s own r (Pushed p) h = cond_both (eqb p.address own) ((panel_design s).push own r p.channel p.edge) (idle r) (λ o. PanelBytes o.after.state) (λ _. refl) (λ _. h)

pub panel_always : EveryPanel (HasAlways PanelBytes 4)
panel_always s =
    record {
      new = λ own. refl;
      after = λ own r e b h. panel_after s own r e h;
      always = λ own es all. always_so (panel_kind s) PanelBytes own (λ r e b h. panel_after s own r e h) _ es all refl;
    }

pub panel_told : (r : Record) → PanelBytes r.state → panel_state (lamps r) (pressed r) ≡ r.state
panel_told r h = sym (spread r.state 0 4 (sym h))

pub channels_are_read : ChannelsAreRead
channels_are_read r channel_1 = record { open_at = read_open r.state 0; closed_at = read_closed r.state 0; running_at = read_running r.state 0 }
channels_are_read r channel_2 = record { open_at = read_open r.state 4; closed_at = read_closed r.state 4; running_at = read_running r.state 4 }
channels_are_read r channel_3 = record { open_at = read_open r.state 8; closed_at = read_closed r.state 8; running_at = read_running r.state 8 }
channels_are_read r channel_4 = record { open_at = read_open r.state 12; closed_at = read_closed r.state 12; running_at = read_running r.state 12 }

-- the bytes of a channel from what it is
written_at : (s : List ℕ) (i : ℕ) → ChannelBytes s i → (x : Contact) → contact_at s i ≡ x → Stand s i (code x) (time x / 65536) (time x / 256 % 256) (time x % 256)
written_at s i h x e =
    let same : contact_bytes x ≡ four s i = ap contact_bytes (sym e) ∙ written_back s i h in
    record { first = sym (ap (λ t. get_or t 0 0) same); second = sym (ap (λ t. get_or t 1 0) same); third = sym (ap (λ t. get_or t 2 0) same); fourth = sym (ap (λ t. get_or t 3 0) same) }

channel_written : (r : Record) (c : ChannelNumber) → of_channel c (contacts r) ≡ contact_at r.state (4 * index c) → ChannelBytes r.state (4 * index c) → ChannelWritten r c
channel_written r c at h =
    record {
      open_at = λ e. written_at r.state (4 * index c) h opened (sym at ∙ e);
      closed_at = λ e. written_at r.state (4 * index c) h closed (sym at ∙ e);
      running_at = λ n e. written_at r.state (4 * index c) h (running n) (sym at ∙ e);
    }

pub channels_are_written : EveryRelay ChannelsAreWritten
channels_are_written s own r e c b h = by c
  where
    such : RelayBytes ((relay_kind s).acts own r e).after.state
    such = relay_after s own r e h

    by : (c : ChannelNumber) → ChannelWritten ((relay_kind s).acts own r e).after c
    by channel_1 = channel_written _ channel_1 refl (such.channel channel_1)
    by channel_2 = channel_written _ channel_2 refl (such.channel channel_2)
    by channel_3 = channel_written _ channel_3 refl (such.channel channel_3)
    by channel_4 = channel_written _ channel_4 refl (such.channel channel_4)
