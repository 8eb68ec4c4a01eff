-- What the state bytes of a button interface hold, by their numbers from 0 on. Assumes nothing.
use Rattle.std.specs.Prelude.{ℕ, ◌+◌, ◌-◌, ◌*◌, ◌/◌, ◌%◌, ◌^◌, Bool, ◌==◌, slice_index}
use Rattle.station.specs.Kinds.{Record}

-- the hold on a channel, 1 to 8: byte 4 + 3 x (channel - 1) and the two after it, high byte first
abbrev pub hold : Record → ℕ → ℕ
hold r channel =
    slice_index r.state (4 + 3 * (channel - 1)) * 65536 + slice_index r.state (4 + 3 * (channel - 1) + 1) * 256 + slice_index r.state (4 + 3 * (channel - 1) + 2)

-- the bits of the pressed buttons
abbrev pub pressed_bits : Record → ℕ
pressed_bits r = slice_index r.state 3

-- the day of the clock, 0 to 6
abbrev pub day : Record → ℕ
day r = slice_index r.state 28

-- its hour
abbrev pub hour : Record → ℕ
hour r = slice_index r.state 29

-- its minute
abbrev pub minute : Record → ℕ
minute r = slice_index r.state 30

-- its second
abbrev pub second : Record → ℕ
second r = slice_index r.state 31

-- a byte has the bit of a channel: bit 0 is that of channel 1
abbrev pub names_channel : ℕ → ℕ → Bool
names_channel n channel = n / 2 ^ (channel - 1) % 2 == 1
