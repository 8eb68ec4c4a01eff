-- How long a channel runs while nothing is asked of it. Assumes nothing.
use Rattle.std.specs.Prelude.{◌≡◌, ℕ, suc, ◌-◌, ◌/◌, ◌%◌, ◌<◌, ◌≤◌, Bool, true, false, ◌&&◌, ◌||◌, ◌⊎◌, List, [], ◌∷◌, ◌==◌, slice_index}
use Rattle.std.specs.List.{AllByRecursion}
use Rattle.bus.specs.declared.frame.Frame.{Frame}
use Rattle.bus.specs.Frames.{is_command, message}
use Rattle.station.specs.declared.event.Event.{Event}
use Rattle.station.specs.declared.event.Event.TheVariants.{Heard, Second, Pushed}
use Rattle.station.specs.Kinds.{Record, Kind, from_link}
use Rattle.station.specs.Rules.{later}
use Rattle.relay.specs.Contacts.{Contact, opened, closed, running}
use Rattle.relay.specs.Relays.{contacts}
use Rattle.laws.specs.Channels.{ChannelNumber, of_channel}
use Rattle.laws.specs.Numbers.{seconds_among}
use Rattle.relay_laws.specs.RelayCommands.{is_named}
use Rattle.relay_laws.specs.RelayReports.{bit_of, channel_status}
use Rattle.relay_laws.specs.RelayListener.{sent_over}
use Rattle.relay_laws.specs.RelayPairs.{NoneFits}

-- the event asks nothing of the channel: it is no 01, 02 or 03 at the own address that names it, and no button status from
-- a linked address that a pair of the channel fits
abbrev pub AsksNothing : Kind → ℕ → ChannelNumber → Record → Event → Type 0
AsksNothing k own c r (Heard f) =
    (f.address ≡ own → ((is_command 0x01 2 f || (is_command 0x02 2 f || is_command 0x03 5 f)) && is_named f c) ≡ false)
    × (from_link k own r f ≡ true → NoneFits r.cells c f)
AsksNothing k own c r Second = Unit
AsksNothing k own c r (Pushed p) = Unit

-- none of the events does, each at the record that it finds
abbrev pub NoneAsks : Kind → ℕ → ChannelNumber → Record → List Event → Type 0
NoneAsks k own c r [] = Unit
NoneAsks k own c r (e ∷ es) = AsksNothing k own c r e × NoneAsks k own c (k.acts own r e).after es

-- a byte has the bit of a channel
abbrev pub has_channel : ℕ → ChannelNumber → Bool
has_channel n c = n / bit_of c % 2 == 1

-- the frame is one of the list
abbrev pub IsIn : Frame → List Frame → Type 0
IsIn g [] = ⊥
IsIn g (f ∷ fs) = (g ≡ f) ⊎ IsIn g fs

-- a frame does not tell of an end: if it is a 00, it has the bit of the channel in neither byte, and if it is an FB of the
-- channel, it says that it runs
pub record TellsNoEnd (c : ChannelNumber) (g : Frame) : Type 0 where
  pub no_switch : is_command 0x00 4 g ≡ true → (has_channel (slice_index g.bytes 1) c ≡ false) × (has_channel (slice_index g.bytes 2) c ≡ false)
  pub still_runs : is_command 0xFB 8 g ≡ true → slice_index g.bytes 1 ≡ bit_of c → slice_index g.bytes 3 ≡ 3

-- the end is told: by an FB that says that the channel is open, and by a 00 with its bit among the opened ones alone
pub record TellsEnd (own : ℕ) (c : ChannelNumber) (sent : List Frame) : Type 0 where
  pub status : IsIn (channel_status own c opened) sent
  pub on : ℕ
  pub off : ℕ
  pub switch : IsIn (message 0 own (0x00 ∷ on ∷ off ∷ 0 ∷ [])) sent
  pub in_opened : has_channel off c ≡ true
  pub not_in_closed : has_channel on c ≡ false

-- a channel with n left, after a list of events that ask nothing of it: it has n less the seconds among them left, and
-- nothing has told of an end; after n of them or more it is open; and the second that makes it n tells the end
pub record TimeRuns (k : Kind) (own : ℕ) (r : Record) (c : ChannelNumber) (n : ℕ) (es : List Event) : Type 0 where
  pub before : seconds_among es < n → of_channel c (contacts (later k own r es)) ≡ running (n - seconds_among es)
  pub told_before : seconds_among es < n → AllByRecursion (TellsNoEnd c) (sent_over k own r es)
  pub over : n ≤ seconds_among es → of_channel c (contacts (later k own r es)) ≡ opened
  pub told_then : suc (seconds_among es) ≡ n → TellsEnd own c (k.acts own (later k own r es) Second).sent

abbrev pub TimesRun : Kind → Type 0
TimesRun k =
    (own : ℕ) (r : Record) (c : ChannelNumber) (n : ℕ) (es : List Event) → 0 < n → of_channel c (contacts r) ≡ running n → NoneAsks k own c r es →
    TimeRuns k own r c n es

-- a channel that is open, or closed without a time, stays so over any list of events that ask nothing of it
abbrev pub ChannelsStay : Kind → Type 0
ChannelsStay k =
    (own : ℕ) (r : Record) (c : ChannelNumber) (x : Contact) (es : List Event) → (x ≡ opened) ⊎ (x ≡ closed) → of_channel c (contacts r) ≡ x → NoneAsks k own c r es →
    of_channel c (contacts (later k own r es)) ≡ x
