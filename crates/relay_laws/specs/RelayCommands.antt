-- What the commands of a relay make of its channels. Assumes nothing.
use Rattle.std.specs.Prelude.{◌≡◌, ℕ, ◌/◌, ◌%◌, ◌<◌, Bool, true, false, ◌≢◌, ◌==◌, slice_index}
use Rattle.bus.specs.declared.frame.Frame.{Frame}
use Rattle.bus.specs.Frames.{is_command}
use Rattle.station.specs.declared.event.Event.TheVariants.{Heard}
use Rattle.station.specs.Kinds.{Record, Kind, from_link}
use Rattle.relay.specs.Contacts.{Contact, opened, closed, running}
use Rattle.relay.specs.Relays.{contacts}
use Rattle.laws.specs.Channels.{ChannelNumber, channel_1, channel_2, channel_3, channel_4, of_channel}
use Rattle.laws.specs.Numbers.{seconds}

-- bits 0 to 3 of the second byte name the channels 1 to 4; bits 4 to 7 say nothing
abbrev pub is_named : Frame → ChannelNumber → Bool
is_named f channel_1 = slice_index f.bytes 1 / 1 % 2 == 1
is_named f channel_2 = slice_index f.bytes 1 / 2 % 2 == 1
is_named f channel_3 = slice_index f.bytes 1 / 4 % 2 == 1
is_named f channel_4 = slice_index f.bytes 1 / 8 % 2 == 1

-- each frame at the own address of which the first is true makes of the channel what the second says of it before and after
abbrev pub MakesOf : Kind → (Frame → ChannelNumber → Type 0) → (Frame → Contact → Contact → Type 0) → Type 0
MakesOf k When Then =
    (own : ℕ) (r : Record) (f : Frame) (c : ChannelNumber) → f.address ≡ own → When f c →
    Then f (of_channel c (contacts r)) (of_channel c (contacts (k.acts own r (Heard f)).after))

-- the frame is the command with so many bytes and names the channel
abbrev pub Asks : ℕ → ℕ → Frame → ChannelNumber → Type 0
Asks code count f c = (is_command code count f ≡ true) × (is_named f c ≡ true)

-- 01 opens, 02 closes, 03 starts a time, but for 0, which does nothing, and FFFFFF, which closes for good; a channel that
-- is not named stays, and so do all on any other frame, unless it is from a linked address
pub record CommandsObeyed (k : Kind) : Type 0 where
  pub opens : MakesOf k (Asks 0x01 2) (λ f was is. is ≡ opened)
  pub closes : MakesOf k (Asks 0x02 2) (λ f was is. is ≡ closed)
  pub starts : MakesOf k (λ f c. (Asks 0x03 5 f c) × (0 < seconds f) × (seconds f < 0xFFFFFF)) (λ f was is. is ≡ running (seconds f))
  pub starts_none : MakesOf k (λ f c. (Asks 0x03 5 f c) × (seconds f ≡ 0)) (λ f was is. is ≡ was)
  pub closes_for_good : MakesOf k (λ f c. (Asks 0x03 5 f c) × (seconds f ≡ 0xFFFFFF)) (λ f was is. is ≡ closed)
  pub unnamed : MakesOf k (λ f c. is_named f c ≡ false) (λ f was is. is ≡ was)
  pub others :
      MakesOf k (λ f c. (is_command 0x01 2 f ≡ false) × (is_command 0x02 2 f ≡ false) × (is_command 0x03 5 f ≡ false)) (λ f was is. is ≡ was)
  pub elsewhere :
      (own : ℕ) (r : Record) (f : Frame) → (f.address ≢ own) → from_link k own r f ≡ false → contacts (k.acts own r (Heard f)).after ≡ contacts r
