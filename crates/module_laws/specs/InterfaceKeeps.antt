-- What alone changes the holds, the pressed buttons, the lamps and the clock of a button interface. Assumes nothing.
use Rattle.std.specs.Prelude.{◌≡◌, ℕ, ◌<◌, ◌≤◌, ◌≢◌, Bool, true, false, if◌then◌else◌, ◌&&◌, ◌||◌, ◌⊎◌, List, ◌==◌, nat_lt, slice_index}
use Rattle.bus.specs.declared.frame.Frame.{Frame}
use Rattle.bus.specs.Frames.{is_command}
use Rattle.station.specs.declared.event.Event.{Event}
use Rattle.station.specs.declared.event.Event.TheVariants.{Heard, Second, Pushed}
use Rattle.station.specs.Kinds.{Record, Kind, from_link}
use Rattle.module_laws.specs.InterfaceRecords.{record_byte, fits}
use Rattle.module_laws.specs.InterfaceStates.{hold, pressed_bits, names_channel}

-- link record k asks something of the channel on a button status: it fits, and locks or toggles (3, 4) with a code below 252
-- or frees (5)
abbrev pub record_asks : List ℕ → Frame → ℕ → ℕ → Bool
record_asks cells f channel k =
    fits cells f channel k && (if record_byte cells k 2 == 3 || record_byte cells k 2 == 4 then nat_lt (record_byte cells k 3) 252 else record_byte cells k 2 == 5)

-- the event asks nothing of a channel: it is no 12 and no 13 at the own address that names it, no button status from a
-- linked address on which one of the 51 records asks something of it, and no second while a time runs
abbrev pub AsksNoHold : Kind → ℕ → Record → ℕ → Event → Type 0
AsksNoHold k own r channel (Heard f) =
    (f.address ≡ own → ((is_command 0x12 5 f || is_command 0x13 2 f) && names_channel (slice_index f.bytes 1) channel) ≡ false)
    × (from_link k own r f ≡ true → (j : ℕ) → j < 51 → record_asks r.cells f channel j ≡ false)
AsksNoHold k own r channel Second = (hold r channel ≡ 0) ⊎ (hold r channel ≡ 0xFFFFFF)
AsksNoHold k own r channel (Pushed p) = Unit

-- such an event leaves the hold as it was
abbrev pub HoldsKept : Kind → Type 0
HoldsKept k =
    (own : ℕ) (r : Record) (channel : ℕ) (e : Event) → 1 ≤ channel → channel ≤ 8 → AsksNoHold k own r channel e →
    hold (k.acts own r e).after channel ≡ hold r channel

-- the event is no push at the own address
abbrev pub NoPush : ℕ → Event → Type 0
NoPush own (Heard f) = Unit
NoPush own Second = Unit
NoPush own (Pushed p) = p.address ≢ own

-- such an event leaves the byte of the pressed buttons as it was
abbrev pub PressedKept : Kind → Type 0
PressedKept k = (own : ℕ) (r : Record) (e : Event) → NoPush own e → pressed_bits (k.acts own r e).after ≡ pressed_bits r

-- the event is no second, and no D8 with four bytes at address 0
abbrev pub NoTimeSet : Event → Type 0
NoTimeSet (Heard f) = f.address ≡ 0 → is_command 0xD8 4 f ≡ false
NoTimeSet Second = ⊥
NoTimeSet (Pushed p) = Unit

-- such an event leaves the clock, state bytes 28 to 31, as it was
abbrev pub ClockKept : Kind → Type 0
ClockKept k =
    (own : ℕ) (r : Record) (e : Event) → NoTimeSet e → (i : ℕ) → 28 ≤ i → i ≤ 31 → slice_index (k.acts own r e).after.state i ≡ slice_index r.state i
