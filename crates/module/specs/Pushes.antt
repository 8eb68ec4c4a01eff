-- What a push does to a module with buttons, where nothing locks them. Assumes nothing.
use Rattle.std.specs.Prelude.{ℕ, ◌-◌, ◌^◌, min, Bool, cond, not, ◌&&◌, List, [], ◌∷◌, ◌==◌, bit_and, bit_or, nat_le, nat_lt}
use Rattle.bus.specs.declared.frame.Frame.{Frame}
use Rattle.bus.specs.Frames.{message}
use Rattle.station.specs.declared.edge.Edge.{Edge}
use Rattle.station.specs.declared.edge.Edge.TheVariants.{Press, Release, LongPress}

-- the bit of a channel, counted from 1
abbrev pub bit : ℕ → ℕ
bit channel = 2 ^ (channel - 1)

-- the button is pressed
abbrev pub down : ℕ → ℕ → Bool
down pressed channel = not (bit_and pressed (bit channel) == 0)

-- an edge that a button can show: a press of a released one, a release or a long press of a pressed one
abbrev pub possible : Edge → Bool → Bool
possible Press isDown = not isDown
possible Release isDown = isDown
possible LongPress isDown = isDown

-- the push counts: there is such a button, eight at most as a byte has eight bits, and it can show that edge
abbrev pub accepted : ℕ → ℕ → ℕ → Edge → Bool
accepted buttons pressed channel edge = nat_lt 0 channel && (nat_le channel (min buttons 8) && possible edge (down pressed channel))

-- the pressed bits after an edge at a bit
abbrev pub after_edge : Edge → ℕ → ℕ → ℕ
after_edge Press pressed b = bit_or pressed b
after_edge Release pressed b = bit_and pressed (255 - b)
after_edge LongPress pressed b = pressed

-- the button status of an edge at a bit: just pressed, just released, long pressed
abbrev pub status_bytes : Edge → ℕ → List ℕ
status_bytes Press b = 0 ∷ b ∷ 0 ∷ 0 ∷ []
status_bytes Release b = 0 ∷ 0 ∷ b ∷ 0 ∷ []
status_bytes LongPress b = 0 ∷ 0 ∷ 0 ∷ b ∷ []

-- the pressed bits after a push
abbrev pub pressed_after : ℕ → ℕ → ℕ → Edge → ℕ
pressed_after buttons pressed channel edge = cond (accepted buttons pressed channel edge) (after_edge edge pressed (bit channel)) pressed

-- what a push sends: a status of the highest priority
abbrev pub push_sent : ℕ → ℕ → ℕ → ℕ → Edge → List Frame
push_sent own buttons pressed channel edge =
    cond (accepted buttons pressed channel edge) (message 0 own (status_bytes edge (bit channel)) ∷ []) []
