-- What a button interface answers to those who ask for its status, its type and the time, and when it sends nothing. Assumes nothing.
use Rattle.std.specs.Prelude.{◌≡◌, ℕ, ◌+◌, ◌≢◌, ◌⊎◌, Bool, true, false, if◌then◌else◌, ◌&&◌, ◌||◌, [], ◌∷◌, ◌==◌}
use Rattle.bus.specs.declared.frame.Frame.{Frame}
use Rattle.bus.specs.Frames.{is_command, message}
use Rattle.station.specs.declared.event.Event.{Event}
use Rattle.station.specs.declared.event.Event.TheVariants.{Heard, Second, Pushed}
use Rattle.station.specs.Kinds.{Record, Kind}
use Rattle.interface.specs.declared.setup.InterfaceSetup.{InterfaceSetup}
use Rattle.kinds.specs.Kinds.{buttons_kind}
use Rattle.module_laws.specs.InterfaceStates.{hold, pressed_bits, day, hour, minute}

-- a bit where there is a hold
abbrev pub bit_where : ℕ → ℕ → ℕ
bit_where h bit = if h == 0 then 0 else bit

-- the bits of the channels with a hold
abbrev pub held_channels : Record → ℕ
held_channels r =
    bit_where (hold r 1) 1 + (bit_where (hold r 2) 2 + (bit_where (hold r 3) 4 + (bit_where (hold r 4) 8
    + (bit_where (hold r 5) 16 + (bit_where (hold r 6) 32 + (bit_where (hold r 7) 64 + bit_where (hold r 8) 128))))))

-- FA with two bytes at the own address is answered by the status, and nothing else is sent
abbrev pub StatusTold : Kind → Type 0
StatusTold k =
    (own : ℕ) (r : Record) (f : Frame) → f.address ≡ own → is_command 0xFA 2 f ≡ true →
    (k.acts own r (Heard f)).sent ≡ message 3 own (0xED ∷ pressed_bits r ∷ 0xFF ∷ 0xFF ∷ held_channels r ∷ 0 ∷ 0 ∷ []) ∷ []

-- RTR 1 without data at the own address is answered by the type and the setup, and nothing else is sent
abbrev pub TypeTold : Type 0
TypeTold =
    (s : InterfaceSetup) (own : ℕ) (r : Record) (f : Frame) → f.address ≡ own → f.rtr ≡ 1 → f.count ≡ 0 →
    ((buttons_kind s).acts own r (Heard f)).sent ≡ message 3 own (0xFF ∷ 0x16 ∷ s.serial.high ∷ s.serial.low ∷ s.map ∷ s.year ∷ s.week ∷ []) ∷ []

-- D7 with one byte at the own address or at address 0 is answered by the time, and nothing else is sent
abbrev pub TimeTold : Kind → Type 0
TimeTold k =
    (own : ℕ) (r : Record) (f : Frame) → (f.address ≡ own) ⊎ (f.address ≡ 0) → is_command 0xD7 1 f ≡ true →
    (k.acts own r (Heard f)).sent ≡ message 3 own (0xD8 ∷ day r ∷ hour r ∷ minute r ∷ []) ∷ []

-- the frame asks for a reply at the own address: FA with two bytes, FD or C9 with three, CA with seven, D7 with one, or RTR 1
-- without data
abbrev pub asks_for_reply : Frame → Bool
asks_for_reply f =
    (f.rtr == 1 && f.count == 0) || (is_command 0xFA 2 f || (is_command 0xFD 3 f || (is_command 0xC9 3 f || (is_command 0xCA 7 f || is_command 0xD7 1 f))))

-- the event is no such frame at the own address, no D7 with one byte at address 0, and no push at the own address
abbrev pub AsksForNone : ℕ → Event → Type 0
AsksForNone own (Heard f) = (f.address ≡ own → asks_for_reply f ≡ false) × (f.address ≡ 0 → is_command 0xD7 1 f ≡ false)
AsksForNone own Second = Unit
AsksForNone own (Pushed p) = p.address ≢ own

-- on such an event nothing is sent
abbrev pub SilentElse : Kind → Type 0
SilentElse k = (own : ℕ) (r : Record) (e : Event) → AsksForNone own e → (k.acts own r e).sent ≡ []
