-- How long a time runs. Assumes nothing.
use Rattle.std.specs.Prelude.{◌≡◌, ℕ, zero, suc, ◌-◌, ◌<◌, ◌≤◌, replicate}
use Rattle.station.specs.declared.event.Event.TheVariants.{Second}
use Rattle.station.specs.Kinds.{Record, Kind}
use Rattle.station.specs.Rules.{later}
use Rattle.relay.specs.Contacts.{Contact, opened, running, ticked}
use Rattle.relay.specs.Relays.{contacts}
use Rattle.laws.specs.Channels.{ChannelNumber, of_channel}

-- what so many seconds make of a channel
abbrev pub ticked_for : ℕ → Contact → Contact
ticked_for zero x = x
ticked_for (suc k) x = ticked_for k (ticked x)

-- a channel k seconds after it had n left: it runs on for what is left of n, and is open from the nth on
pub record Ran (n k : ℕ) (x : Contact) : Type 0 where
  pub before : k < n → x ≡ running (n - k)
  pub over : n ≤ k → x ≡ opened

-- a time of n is over after n seconds and not earlier
abbrev pub TimeEnds : Type 0
TimeEnds = (n k : ℕ) → 0 < n → Ran n k (ticked_for k (running n))

-- so does that of each channel of a relay, by its record after k seconds
abbrev pub ChannelTimeEnds : Kind → Type 0
ChannelTimeEnds kind =
    (own : ℕ) (r : Record) (c : ChannelNumber) (n k : ℕ) → 0 < n → of_channel c (contacts r) ≡ running n →
    Ran n k (of_channel c (contacts (later kind own r (replicate k Second))))
