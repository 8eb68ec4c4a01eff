-- What the lamp commands do to the lamps of a module. Assumes nothing.
use Rattle.std.specs.Prelude.{ℕ, ◌-◌, Bool, true, false, cond, bit_and, bit_or}
use Rattle.bus.specs.declared.frame.Frame.{Frame}
use Rattle.bus.specs.Frames.{byte, is_command}
use Rattle.module.specs.declared.lamps.Lamps.{Lamps}
use Rattle.module.specs.declared.lamps.LampMode.{LampMode}
use Rattle.module.specs.declared.lamps.LampMode.TheVariants.{Out, On, Slow, Fast, VeryFast}

-- a byte with the named bits set, or cleared
abbrev pub marked : Bool → ℕ → ℕ → ℕ
marked wanted old bits = cond wanted (bit_or old bits) (bit_and old (255 - bits))

-- the named lamps in one mode: on, slow and fast say which bytes have their bits
abbrev pub in_mode : Bool → Bool → Bool → Lamps → ℕ → Lamps
in_mode on slow fast l bits = record { on = marked on l.on bits; slow = marked slow l.slow bits; fast = marked fast l.fast bits }

-- the named lamps in each of the modes; very fast is slow and fast together
abbrev pub put_in : LampMode → Lamps → ℕ → Lamps
put_in Out l bits = in_mode false false false l bits
put_in On l bits = in_mode true false false l bits
put_in Slow l bits = in_mode false true false l bits
put_in Fast l bits = in_mode false false true l bits
put_in VeryFast l bits = in_mode false true true l bits

-- 0xF4 sets the three bytes; 0xF5 to 0xF9 put the named lamps out, on, in slow, fast and very fast blinking
abbrev pub lamps_after : Lamps → Frame → Lamps
lamps_after l f =
    cond (is_command 0xF4 4 f) (record { on = byte f 1; slow = byte f 2; fast = byte f 3 })
    (cond (is_command 0xF5 2 f) (in_mode false false false l (byte f 1))
    (cond (is_command 0xF6 2 f) (in_mode true false false l (byte f 1))
    (cond (is_command 0xF7 2 f) (in_mode false true false l (byte f 1))
    (cond (is_command 0xF8 2 f) (in_mode false false true l (byte f 1))
    (cond (is_command 0xF9 2 f) (in_mode false true true l (byte f 1)) l)))))
