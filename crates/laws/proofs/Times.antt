-- A running time ends with its last second. Assumes nothing.
use Rattle.std.proofs.Common.{◌≡◌, ℕ, zero, suc, ◌-◌, ◌<◌, ◌≤◌, leb, replicate, sym, refl, ap, ◌∙◌, subst, inl, inr, arith}
use Rattle.std.proofs.lemmas.Bool.{cond-true, cond-false, le-leb, lt-leb, cases_lt}
use Rattle.station.specs.declared.event.Event.TheVariants.{Second}
use Rattle.station.specs.Kinds.{Record}
use Rattle.station.specs.Rules.{later}
use Rattle.relay.specs.declared.per_channel.PerChannel.{PerChannel}
use Rattle.relay.specs.declared.relay.RelaySetup.{RelaySetup}
use Rattle.relay.specs.Contacts.{Contact, opened, running, ticked}
use Rattle.relay.specs.Relays.{contacts, all_ticked, second}
use Rattle.relay.proofs.Decoded.{decoded}
use Rattle.laws.specs.Channels.{ChannelNumber, channel_1, channel_2, channel_3, channel_4, of_channel}
use Rattle.kinds.specs.Kinds.{relay_kind, EveryRelay}
use Rattle.laws.specs.Times.{ticked_for, Ran, TimeEnds, ChannelTimeEnds}

stays_open : (k : ℕ) → ticked_for k opened ≡ opened
stays_open zero = refl
stays_open (suc k) = stays_open k

last : (n : ℕ) → n ≤ 1 → ticked (running n) ≡ opened
last n h = cond-true (leb n 1) _ _ (le-leb n 1 h)

not_last : (n : ℕ) → 1 < n → ticked (running n) ≡ running (n - 1)
not_last n h = cond-false (leb n 1) _ _ (lt-leb n 1 h)

runs : (k n : ℕ) → k < n → ticked_for k (running n) ≡ running (n - k)
runs zero n h = let e : n ≡ n - 0 = omega arith in ap running e
runs (suc k) n h =
    let e : n - 1 - k ≡ n - suc k = omega arith in
    ap (ticked_for k) (not_last n (omega arith)) ∙ (runs k (n - 1) (omega arith) ∙ ap running e)

ends : (k n : ℕ) → 0 < n → n ≤ k → ticked_for k (running n) ≡ opened
ends zero n p h = absurd (omega arith)
ends (suc k) n p h =
    elim (cases_lt 1 n) [
      | inl l ↦ ap (ticked_for k) (not_last n l) ∙ ends k (n - 1) (omega arith) (omega arith)
      | inr l ↦ ap (ticked_for k) (last n l) ∙ stays_open k
    ]

pub time_ends : TimeEnds
time_ends n k p = record { before = runs k n; over = ends k n p }

-- each channel after k seconds
channel_later : (s : RelaySetup) (own : ℕ) (r : Record) (c : ChannelNumber) (k : ℕ) → of_channel c (contacts (later (relay_kind s) own r (replicate k Second))) ≡ ticked_for k (of_channel c (contacts r))
channel_later s own r c zero = refl
channel_later s own r c (suc k) =
    channel_later s own (second own r).after c k ∙ ap (ticked_for k) (ap (of_channel c) (decoded r.cells (all_ticked (contacts r))) ∙ each (contacts r) c)
  where
    each : (x : PerChannel Contact) (c : ChannelNumber) → of_channel c (all_ticked x) ≡ ticked (of_channel c x)
    each x channel_1 = refl
    each x channel_2 = refl
    each x channel_3 = refl
    each x channel_4 = refl

pub channel_time_ends : EveryRelay ChannelTimeEnds
channel_time_ends s own r c n k p e = subst (Ran n k) (sym (channel_later s own r c k ∙ ap (ticked_for k) e)) (time_ends n k p)
