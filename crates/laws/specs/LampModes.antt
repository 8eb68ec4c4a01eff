-- What a lamp command does to each lamp. Assumes nothing.
use Rattle.std.specs.Prelude.{◌≡◌, ℕ, ◌≤◌, ◌<◌, Bool, true, false, cond, slice_index}
use Rattle.bus.specs.declared.frame.Frame.{Frame}
use Rattle.bus.specs.Frames.{byte, is_command}
use Rattle.station.specs.declared.event.Event.TheVariants.{Heard}
use Rattle.station.specs.Kinds.{Record, Kind}
use Rattle.module.specs.declared.lamps.LampMode.{LampMode}
use Rattle.module.specs.declared.lamps.LampMode.TheVariants.{Out, On, Slow, Fast, VeryFast}
use Rattle.module.specs.Bits.{has_bit}
use Rattle.module.specs.Pushes.{bit}
use Rattle.kinds.specs.Kinds.{EveryPanel, EveryButtonInterface}

-- in which of the three lamp bytes a lamp has its bit
pub record Light : Type 0 where
  pub on : Bool
  pub slow : Bool
  pub fast : Bool

-- that of the lamp of a channel: the first three state bytes of both kinds with lamps
abbrev pub light : Record → ℕ → Light
light r channel =
    record { on = has_bit (slice_index r.state 0) (bit channel); slow = has_bit (slice_index r.state 1) (bit channel); fast = has_bit (slice_index r.state 2) (bit channel) }

-- in each mode: out, on, and blinking slowly, fast, and very fast, which is slowly and fast together
abbrev pub shining : LampMode → Light
shining Out = record { on = false; slow = false; fast = false }
shining On = record { on = true; slow = false; fast = false }
shining Slow = record { on = false; slow = true; fast = false }
shining Fast = record { on = false; slow = false; fast = true }
shining VeryFast = record { on = false; slow = true; fast = true }

-- the command that asks for a mode
abbrev pub asks_for : LampMode → ℕ
asks_for Out = 0xF5
asks_for On = 0xF6
asks_for Slow = 0xF7
asks_for Fast = 0xF8
asks_for VeryFast = 0xF9

-- it puts the lamps that it names in that mode and leaves the others
abbrev pub LampsObey : Kind → Type 0
LampsObey k =
    (own : ℕ) (r : Record) (f : Frame) (mode : LampMode) (channel : ℕ) → f.address ≡ own → is_command (asks_for mode) 2 f ≡ true → byte f 1 < 256 →
    1 ≤ channel → channel ≤ 8 →
    light (k.acts own r (Heard f)).after channel ≡ cond (has_bit (byte f 1) (bit channel)) (shining mode) (light r channel)

-- 0xF4 gives each lamp its bits in the three bytes
abbrev pub LampsAreSet : Kind → Type 0
LampsAreSet k =
    (own : ℕ) (r : Record) (f : Frame) (channel : ℕ) → f.address ≡ own → is_command 0xF4 4 f ≡ true →
    light (k.acts own r (Heard f)).after channel
    ≡ record { on = has_bit (byte f 1) (bit channel); slow = has_bit (byte f 2) (bit channel); fast = has_bit (byte f 3) (bit channel) }

-- a law holds of each panel and each button interface
pub record EveryKindWithLamps (Law : Kind → Type 0) : Type 0 where
  pub panel : EveryPanel Law
  pub buttons : EveryButtonInterface Law
