-- What a relay tells of its channels. Assumes nothing.
use Rattle.std.specs.Prelude.{◌≡◌, ℕ, ◌+◌, ◌/◌, ◌%◌, Bool, true, false, if◌then◌else◌, not, ◌&&◌, ◌||◌, List, [], ◌∷◌, ◌++◌, Some, None, Option, ◌==◌, slice_index}
use Rattle.bus.specs.declared.frame.Frame.{Frame}
use Rattle.bus.specs.Frames.{is_command, message}
use Rattle.station.specs.declared.event.Event.{Event}
use Rattle.station.specs.declared.event.Event.TheVariants.{Heard, Second, Pushed}
use Rattle.station.specs.Kinds.{Record, Kind, from_link}
use Rattle.relay.specs.declared.per_channel.PerChannel.{PerChannel}
use Rattle.relay.specs.Contacts.{Contact, opened, closed, running}
use Rattle.relay.specs.Relays.{contacts}
use Rattle.laws.specs.Channels.{ChannelNumber, channel_1, channel_2, channel_3, channel_4, of_channel}
use Rattle.relay_laws.specs.RelayCommands.{is_named}
use Rattle.relay_laws.specs.RelayPairs.{place, PairNumber, Obeys}

-- the bit of a channel
abbrev pub bit_of : ChannelNumber → ℕ
bit_of channel_1 = 1
bit_of channel_2 = 2
bit_of channel_3 = 4
bit_of channel_4 = 8

-- a contact is made where the channel is closed, for good or for a time
abbrev pub is_made : Contact → Bool
is_made opened = false
is_made closed = true
is_made (running n) = true

abbrev pub closes : Contact → Contact → Bool
closes was is = is_made is && not (is_made was)

abbrev pub opens : Contact → Contact → Bool
opens was is = is_made was && not (is_made is)

-- the state is told as 0 open, 1 closed, 3 running
abbrev pub state_byte : Contact → ℕ
state_byte opened = 0
state_byte closed = 1
state_byte (running n) = 3

abbrev pub seconds_left : Contact → ℕ
seconds_left opened = 0
seconds_left closed = 0
seconds_left (running n) = n

-- the status of a channel: FB, its bit, 0, the state, 0, the time left, high byte first
abbrev pub channel_status : ℕ → ChannelNumber → Contact → Frame
channel_status own c x =
    message 3 own (0xFB ∷ bit_of c ∷ 0 ∷ state_byte x ∷ 0 ∷ seconds_left x / 65536 ∷ seconds_left x / 256 % 256 ∷ seconds_left x % 256 ∷ [])

-- the frame, where it is so
abbrev pub where_so : Bool → Frame → List Frame
where_so b f = if b then f ∷ [] else []

-- what is said of channel 1, then of 2, 3 and 4
abbrev pub in_turn : (ChannelNumber → List Frame) → List Frame
in_turn say = say channel_1 ++ (say channel_2 ++ (say channel_3 ++ say channel_4))

-- the bits of the channels of which it is so
abbrev pub bits_where : (ChannelNumber → Bool) → ℕ
bits_where b = (if b channel_1 then 1 else 0) + ((if b channel_2 then 2 else 0) + ((if b channel_3 then 4 else 0) + (if b channel_4 then 8 else 0)))

-- the channels now closed and now open, by 00, if there are any
abbrev pub one_switch : ℕ → ℕ → ℕ → List Frame
one_switch own on off = where_so (not (on == 0 && off == 0)) (message 0 own (0x00 ∷ on ∷ off ∷ 0 ∷ []))

-- one FB for each channel whose contact changed, in order, then one 00
abbrev pub changes_told : ℕ → PerChannel Contact → PerChannel Contact → List Frame
changes_told own was is =
    in_turn (λ c. where_so (closes (of_channel c was) (of_channel c is) || opens (of_channel c was) (of_channel c is)) (channel_status own c (of_channel c is)))
    ++ one_switch own (bits_where (λ c. closes (of_channel c was) (of_channel c is))) (bits_where (λ c. opens (of_channel c was) (of_channel c is)))

-- the lamps of a channel with the pair that it obeyed: F6 where it closed, F5 where it opened, with the pair's bits
abbrev pub lamp_told : List ℕ → ℕ → ChannelNumber → Option PairNumber → Contact → Contact → List Frame
lamp_told cells a c None was is = []
lamp_told cells a c (Some p) was is =
    where_so (closes was is) (message 3 a (0xF6 ∷ slice_index cells (place c p.table p.number + 1) ∷ []))
    ++ where_so (opens was is) (message 3 a (0xF5 ∷ slice_index cells (place c p.table p.number + 1) ∷ []))

-- the event is a button status from a linked address
abbrev pub by_link : Kind → ℕ → Record → Event → Bool
by_link k own r (Heard f) = from_link k own r f
by_link k own r Second = false
by_link k own r (Pushed p) = false

-- the event is a question: FA, FD, C9 or CA at the own address
abbrev pub is_question : ℕ → Event → Bool
is_question own (Heard f) = f.address == own && (is_command 0xFA 2 f || (is_command 0xFD 3 f || (is_command 0xC9 3 f || is_command 0xCA 7 f)))
is_question own Second = false
is_question own (Pushed p) = false

-- what is sent is told by the contacts before and after. By no link: the changes alone. By a link: the changes, and then
-- for each channel that changed, in order, a lamp command with the bits of the pair obeyed; there is always just one
-- such pair, or none fits. FA: the status of each channel named, in order. No other event is answered
pub record ReportsExactly (k : Kind) : Type 0 where
  pub by_itself :
      (own : ℕ) (r : Record) (e : Event) → is_question own e ≡ false → by_link k own r e ≡ false →
      (k.acts own r e).sent ≡ changes_told own (contacts r) (contacts (k.acts own r e).after)
  pub linked :
      (own : ℕ) (r : Record) (f : Frame) (pair : ChannelNumber → Option PairNumber) → from_link k own r f ≡ true → ((c : ChannelNumber) → Obeys r.cells c f (pair c)) →
      (k.acts own r (Heard f)).sent
      ≡ changes_told own (contacts r) (contacts (k.acts own r (Heard f)).after)
      ++ in_turn (λ c. lamp_told r.cells f.address c (pair c) (of_channel c (contacts r)) (of_channel c (contacts (k.acts own r (Heard f)).after)))
  pub some_obeyed : (cells : List ℕ) (c : ChannelNumber) (f : Frame) → (p : Option PairNumber) × Obeys cells c f p
  pub no_other : (cells : List ℕ) (c : ChannelNumber) (f : Frame) (p q : Option PairNumber) → Obeys cells c f p → Obeys cells c f q → p ≡ q
  pub asked :
      (own : ℕ) (r : Record) (f : Frame) → f.address ≡ own → is_command 0xFA 2 f ≡ true →
      (k.acts own r (Heard f)).sent ≡ in_turn (λ c. where_so (is_named f c) (channel_status own c (of_channel c (contacts r))))
