-- How long what starts a time makes a channel run. Assumes nothing.
use Rattle.std.specs.Prelude.{◌≡◌, ℕ, ◌<◌, true, List}
use Rattle.bus.specs.declared.frame.Frame.{Frame}
use Rattle.station.specs.declared.event.Event.{Event}
use Rattle.station.specs.declared.event.Event.TheVariants.{Heard}
use Rattle.station.specs.Kinds.{Record, Kind, from_link}
use Rattle.relay.specs.declared.relay.RelaySetup.{RelaySetup}
use Rattle.relay.specs.Contacts.{opened}
use Rattle.relay.specs.Relays.{contacts}
use Rattle.laws.specs.Channels.{ChannelNumber, of_channel}
use Rattle.kinds.specs.Kinds.{relay_kind}
use Rattle.relay_laws.specs.RelayCommands.{Asks}
use Rattle.laws.specs.Numbers.{seconds}
use Rattle.relay_laws.specs.RelayPairs.{FirstFits}
use Rattle.relay_laws.specs.RelayLayout.{within_range}
use Rattle.relay_laws.specs.RelayTimes.{NoneAsks, TimeRuns}

-- after the event a time of n runs
abbrev pub RunsFrom : Kind → ℕ → Record → Event → ChannelNumber → ℕ → Type 0
RunsFrom k own r e c n = (es : List Event) → NoneAsks k own c (k.acts own r e).after es → TimeRuns k own (k.acts own r e).after c n es

-- a pair of table t, the first that fits, starts a time
abbrev pub StartedBy : ℕ → (RelaySetup → ChannelNumber → Record → ℕ → Type 0) → Type 0
StartedBy t When =
    (s : RelaySetup) (own : ℕ) (r : Record) (f : Frame) (c : ChannelNumber) (i n : ℕ) → from_link (relay_kind s) own r f ≡ true → FirstFits r.cells c f t i →
    When s c r n → RunsFrom (relay_kind s) own r (Heard f) c (within_range n)

-- 03 starts its time; tables 6 and 7 start timer 1 and timer 2 of the channel, and so do tables 4 and 5 where it is open
pub record TimesStarted : Type 0 where
  pub by_command :
      (s : RelaySetup) (own : ℕ) (r : Record) (f : Frame) (c : ChannelNumber) → f.address ≡ own → Asks 0x03 5 f c → 0 < seconds f → seconds f < 0xFFFFFF →
      RunsFrom (relay_kind s) own r (Heard f) c (seconds f)
  pub by_start_1 : StartedBy 6 (λ s c r n. n ≡ (of_channel c s.timers).first)
  pub by_start_2 : StartedBy 7 (λ s c r n. n ≡ (of_channel c s.timers).second)
  pub by_toggle_1 : StartedBy 4 (λ s c r n. (n ≡ (of_channel c s.timers).first) × (of_channel c (contacts r) ≡ opened))
  pub by_toggle_2 : StartedBy 5 (λ s c r n. (n ≡ (of_channel c s.timers).second) × (of_channel c (contacts r) ≡ opened))
