-- What a push at a button does. Assumes nothing.
use Rattle.std.specs.Prelude.{◌≡◌, ℕ, ◌<◌, ◌≤◌, Bool, true, false, not, ◌&&◌, [], ◌∷◌, ◌==◌, ◌≢◌, nat_lt, nat_le, slice_index}
use Rattle.bus.specs.Frames.{message}
use Rattle.station.specs.declared.edge.Edge.{Edge}
use Rattle.station.specs.declared.edge.Edge.TheVariants.{Press, Release, LongPress}
use Rattle.station.specs.declared.event.Event.TheVariants.{Pushed}
use Rattle.station.specs.declared.event.Push.{Push}
use Rattle.station.specs.Kinds.{Record, Outcome, Kind}
use Rattle.module.specs.Pushes.{bit, down, possible, status_bytes}
use Rattle.timing.specs.Holds.{locked}
use Rattle.interface.specs.Channels.{hold_on}
use Rattle.interface.specs.States.{decoded}
use Rattle.kinds.specs.Kinds.{EveryPanel, EveryButtonInterface}

-- the button of a channel is pressed: the fourth state byte of both kinds with buttons has its bit
abbrev pub is_down : Record → ℕ → Bool
is_down r channel = down (slice_index r.state 3) channel

-- the button is pressed after an edge
abbrev pub left_down : Edge → Bool
left_down Press = true
left_down Release = false
left_down LongPress = true

-- a push counts: it is at the own address and at one of eight channels, which is not locked, and the button can show the
-- edge
abbrev pub counts : (Record → ℕ → Bool) → ℕ → Record → Push → Bool
counts is_locked own r p =
    p.address == own && (nat_lt 0 p.channel && (nat_le p.channel 8 && (not (is_locked r p.channel) && possible p.edge (is_down r p.channel))))

-- then one button status with the bit of the channel is sent; that button is as the edge leaves it; any other is as it
-- was, and so are the lamps, in the first three state bytes
pub record ButtonMoves (own : ℕ) (r : Record) (p : Push) (o : Outcome) : Type 0 where
  pub told : o.sent ≡ message 0 own (status_bytes p.edge (bit p.channel)) ∷ []
  pub moved : is_down o.after p.channel ≡ left_down p.edge
  pub others : (c : ℕ) → 1 ≤ c → c ≤ 8 → (c ≢ p.channel) → is_down o.after c ≡ is_down r c
  pub lamps : (i : ℕ) → i < 3 → slice_index o.after.state i ≡ slice_index r.state i

abbrev pub PushMoves : (Record → ℕ → Bool) → Kind → Type 0
PushMoves is_locked k = (own : ℕ) (r : Record) (p : Push) → counts is_locked own r p ≡ true → ButtonMoves own r p (k.acts own r (Pushed p))

-- nothing is sent, and the first four state bytes are as they were
pub record ButtonsStay (r : Record) (o : Outcome) : Type 0 where
  pub silent : o.sent ≡ []
  pub same : (i : ℕ) → i < 4 → slice_index o.after.state i ≡ slice_index r.state i

-- that comes of any other push
abbrev pub PushIgnored : (Record → ℕ → Bool) → Kind → Type 0
PushIgnored is_locked k = (own : ℕ) (r : Record) (p : Push) → counts is_locked own r p ≡ false → ButtonsStay r (k.acts own r (Pushed p))

-- a law holds of each panel, which has no locks, and of each button interface
pub record EveryKindWithButtons (Law : (Record → ℕ → Bool) → Kind → Type 0) : Type 0 where
  pub panel : EveryPanel (Law (λ r channel. false))
  pub buttons : EveryButtonInterface (Law (λ r channel. locked (hold_on (decoded r.state).holds channel)))
