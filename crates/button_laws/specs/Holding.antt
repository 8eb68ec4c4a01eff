-- What locks a channel, for how long, and what that means for its button; channels are 1 to 8. Assumes nothing.
use Rattle.std.specs.Prelude.{◌≡◌, ℕ, suc, ◌-◌, ◌<◌, ◌≤◌, Bool, true, false, ◌&&◌, List, [], ◌∷◌, is_some, Some, ◌≢◌, ◌⊎◌, bit_and}
use Rattle.bus.specs.declared.frame.Frame.{Frame}
use Rattle.bus.specs.Frames.{byte, seconds_in, is_command}
use Rattle.station.specs.declared.event.Event.{Event}
use Rattle.station.specs.declared.event.Event.TheVariants.{Heard, Second, Pushed}
use Rattle.station.specs.declared.event.Push.{Push}
use Rattle.station.specs.Kinds.{Record, Kind, from_link}
use Rattle.station.specs.Rules.{later}
use Rattle.module.specs.Bits.{has_bit}
use Rattle.module.specs.Pushes.{bit, push_sent}
use Rattle.timing.specs.declared.locking.Locking.{Locking}
use Rattle.timing.specs.Holds.{locked, obeyed}
use Rattle.timing.specs.TimeCodes.{seconds_of_code}
use Rattle.interface.specs.declared.variant.Variant.{Variant}
use Rattle.interface.specs.Interfaces.{commanded}
use Rattle.interface.specs.Links.{link_byte, matches, asked}
use Rattle.interface.specs.States.{State, decoded}
use Rattle.button_laws.specs.Interfaces.{hold, seconds}

-- the command's channel bits that count have the channel's bit
abbrev pub names : Variant → Frame → ℕ → Bool
names v f channel = has_bit (bit_and (byte f 1) v.channels) (bit channel)

-- a command asks something of the channel: it is a lock or an unlock, and names it
abbrev pub commands : Variant → Frame → ℕ → Bool
commands v f channel = is_some (commanded f) && names v f channel

-- so does link record k: it matches the button status, asks something, and has the channel's bit
abbrev pub record_acts : Variant → List ℕ → Frame → ℕ → ℕ → Bool
record_acts v cells f channel k =
    matches cells f k && (is_some (asked (link_byte cells k 2) (link_byte cells k 3)) && has_bit (bit_and (link_byte cells k 4) v.channels) (bit channel))

-- the event asks nothing of the channel: a frame is no such command at the own address, and if it is a button status
-- from a linked address, no record acts
abbrev pub AsksNothing : Variant → Kind → ℕ → Record → ℕ → Event → Type 0
AsksNothing v kind own r channel (Heard f) =
    (f.address ≡ own → commands v f channel ≡ false) ×
    (from_link kind own r f ≡ true → (k : ℕ) → k < 51 → record_acts v r.cells f channel k ≡ false)
AsksNothing v kind own r channel Second = Unit {0}
AsksNothing v kind own r channel (Pushed p) = Unit {0}

-- none of the events does, each at the record that the earlier ones led to
abbrev pub NoneAsks : Variant → Kind → ℕ → Record → ℕ → List Event → Type 0
NoneAsks v kind own r channel [] = Unit {0}
NoneAsks v kind own r channel (e ∷ es) = AsksNothing v kind own r channel e × NoneAsks v kind own (kind.acts own r e).after channel es

-- a hold that was n, k seconds later: what is left of n, and free from the nth on
pub record Held (n k h : ℕ) : Type 0 where
  pub before : k < n → h ≡ n - k
  pub over : n ≤ k → h ≡ 0

-- a hold of n seconds is over after exactly n, whatever happens meanwhile that asks nothing of the channel
abbrev pub HoldEnds : Variant → Kind → Type 0
HoldEnds v kind =
    (own : ℕ) (r : Record) (channel : ℕ) (es : List Event) → 1 ≤ channel → channel ≤ 8 → hold r channel < 0xFFFFFF →
    NoneAsks v kind own r channel es → Held (hold r channel) (seconds es) (hold (later kind own r es) channel)

-- one without a time stays
abbrev pub HoldStays : Variant → Kind → Type 0
HoldStays v kind =
    (own : ℕ) (r : Record) (channel : ℕ) (es : List Event) → 1 ≤ channel → channel ≤ 8 → hold r channel ≡ 0xFFFFFF →
    NoneAsks v kind own r channel es → hold (later kind own r es) channel ≡ 0xFFFFFF

-- a lock command at the own address that names the channel and carries a time sets the hold to that time
abbrev pub LockSetsTheHold : Variant → Kind → Type 0
LockSetsTheHold v kind =
    (own : ℕ) (r : Record) (f : Frame) (channel : ℕ) → 1 ≤ channel → channel ≤ 8 → f.address ≡ own → is_command 0x12 5 f ≡ true →
    names v f channel ≡ true → 0 < seconds_in f → seconds_in f ≤ 0xFFFFFF → hold (kind.acts own r (Heard f)).after channel ≡ seconds_in f

-- so the channel is free after exactly that many seconds
abbrev pub LockEnds : Variant → Kind → Type 0
LockEnds v kind =
    (own : ℕ) (r : Record) (f : Frame) (channel : ℕ) (es : List Event) → 1 ≤ channel → channel ≤ 8 → f.address ≡ own → is_command 0x12 5 f ≡ true →
    names v f channel ≡ true → 0 < seconds_in f → seconds_in f < 0xFFFFFF → NoneAsks v kind own (kind.acts own r (Heard f)).after channel es →
    Held (seconds_in f) (seconds es) (hold (later kind own r (Heard f ∷ es)) channel)

-- an unlock command frees the channel
abbrev pub UnlockFrees : Variant → Kind → Type 0
UnlockFrees v kind =
    (own : ℕ) (r : Record) (f : Frame) (channel : ℕ) → 1 ≤ channel → channel ≤ 8 → f.address ≡ own → is_command 0x13 2 f ≡ true →
    names v f channel ≡ true → hold (kind.acts own r (Heard f)).after channel ≡ 0

-- the hold on a channel before each of the 51 link records, and after the last: a record that acts makes of it what it
-- asks, any other leaves it
pub record InOrder (v : Variant) (cells : List ℕ) (f : Frame) (channel first last : ℕ) : Type 0 where
  pub before : ℕ → ℕ
  pub starts : before 0 ≡ first
  pub ends : before 51 ≡ last
  pub acts : (k : ℕ) (l : Locking) → k < 51 → record_acts v cells f channel k ≡ true → asked (link_byte cells k 2) (link_byte cells k 3) ≡ Some l → before (suc k) ≡ obeyed l (before k)
  pub passes : (k : ℕ) → k < 51 → record_acts v cells f channel k ≡ false → before (suc k) ≡ before k

-- on a button status from a linked address the records act one after the other, from the first to the last
abbrev pub RecordsActInOrder : Variant → Kind → Type 0
RecordsActInOrder v kind =
    (own : ℕ) (r : Record) (f : Frame) (channel : ℕ) → 1 ≤ channel → channel ≤ 8 → from_link kind own r f ≡ true →
    InOrder v r.cells f channel (hold r channel) (hold (kind.acts own r (Heard f)).after channel)

-- of all records, just record k acts on the channel
pub record ActsAlone (v : Variant) (cells : List ℕ) (f : Frame) (channel k : ℕ) : Type 0 where
  pub within : k < 51
  pub acts : record_acts v cells f channel k ≡ true
  pub alone : (j : ℕ) → j < 51 → (j ≢ k) → record_acts v cells f channel j ≡ false

-- then the hold is what that record makes of it
abbrev pub SingleRecordObeyed : Variant → Kind → Type 0
SingleRecordObeyed v kind =
    (own : ℕ) (r : Record) (f : Frame) (channel k : ℕ) (l : Locking) → 1 ≤ channel → channel ≤ 8 → from_link kind own r f ≡ true →
    ActsAlone v r.cells f channel k → asked (link_byte r.cells k 2) (link_byte r.cells k 3) ≡ Some l →
    hold (kind.acts own r (Heard f)).after channel ≡ obeyed l (hold r channel)

-- record k acts on the channel, and no later one does
pub record ActsLast (v : Variant) (cells : List ℕ) (f : Frame) (channel k : ℕ) : Type 0 where
  pub within : k < 51
  pub acts : record_acts v cells f channel k ≡ true
  pub last : (j : ℕ) → k < j → j < 51 → record_acts v cells f channel j ≡ false

-- record k locks the channel in the end: by action 3, whatever the records before it did, or by action 4, alone and with
-- the channel free
abbrev pub Locks : Variant → Record → Frame → ℕ → ℕ → Type 0
Locks v r f channel k =
    ((link_byte r.cells k 2 ≡ 3) × ActsLast v r.cells f channel k) ⊎ ((link_byte r.cells k 2 ≡ 4) × ((hold r channel ≡ 0) × ActsAlone v r.cells f channel k))

-- then the channel is free after exactly the seconds of the record's code
abbrev pub LinkedLockEnds : Variant → Kind → Type 0
LinkedLockEnds v kind =
    (own : ℕ) (r : Record) (f : Frame) (channel k n : ℕ) (es : List Event) → 1 ≤ channel → channel ≤ 8 → from_link kind own r f ≡ true →
    Locks v r f channel k → 0 < link_byte r.cells k 3 → seconds_of_code (link_byte r.cells k 3) ≡ Some n →
    NoneAsks v kind own (kind.acts own r (Heard f)).after channel es → Held n (seconds es) (hold (later kind own r (Heard f ∷ es)) channel)

-- record k frees the channel in the end: by action 5, whatever the records before it did, or by action 4, alone and with
-- the channel locked
abbrev pub Frees : Variant → Record → Frame → ℕ → ℕ → Type 0
Frees v r f channel k =
    ((link_byte r.cells k 2 ≡ 5) × ActsLast v r.cells f channel k) ⊎ ((link_byte r.cells k 2 ≡ 4) × ((0 < hold r channel) × ActsAlone v r.cells f channel k))

-- then the channel is free
abbrev pub LinkedUnlockFrees : Variant → Kind → Type 0
LinkedUnlockFrees v kind =
    (own : ℕ) (r : Record) (f : Frame) (channel k : ℕ) → 1 ≤ channel → channel ≤ 8 → from_link kind own r f ≡ true →
    Frees v r f channel k → hold (kind.acts own r (Heard f)).after channel ≡ 0

-- a push at a locked channel changes no part of the state, and sends nothing
abbrev pub LockedIgnoresPushes : Variant → Kind → Type 0
LockedIgnoresPushes v kind =
    (own : ℕ) (r : Record) (p : Push) → locked (hold r p.channel) ≡ true →
    (decoded (kind.acts own r (Pushed p)).after.state ≡ decoded r.state) × ((kind.acts own r (Pushed p)).sent ≡ [])

-- so its button is silent for exactly as long as the hold lasts, whatever happens meanwhile that asks nothing of the
-- channel: from its end on a push sends what it sends where nothing is locked
abbrev pub SilentWhileHeld : Variant → Kind → Type 0
SilentWhileHeld v kind =
    (own : ℕ) (r : Record) (p : Push) (es : List Event) → 1 ≤ p.channel → p.channel ≤ 8 → p.address ≡ own → hold r p.channel < 0xFFFFFF →
    NoneAsks v kind own r p.channel es → let now = later kind own r es in let sent = (kind.acts own now (Pushed p)).sent in
    (seconds es < hold r p.channel → sent ≡ []) ×
    (hold r p.channel ≤ seconds es → sent ≡ push_sent own v.buttons (decoded now.state).pressed p.channel p.edge)

-- a push changes no lamp, no hold and no time
pub record RestKept (x y : State) : Type 0 where
  pub lamps : y.lamps ≡ x.lamps
  pub holds : y.holds ≡ x.holds
  pub clock : y.clock ≡ x.clock

abbrev pub PushesKeepTheRest : Variant → Kind → Type 0
PushesKeepTheRest v kind = (own : ℕ) (r : Record) (p : Push) → RestKept (decoded r.state) (decoded (kind.acts own r (Pushed p)).after.state)
