-- The holds on the channels of a button interface, as a list from channel 1 on. Assumes nothing.
use Rattle.std.specs.Prelude.{ℕ, ◌+◌, ◌-◌, ◌*◌, cond, List, [], ◌∷◌, map, Some, None, Option, slice_index}
use Rattle.module.specs.Bits.{has_bit}
use Rattle.timing.specs.declared.locking.Locking.{Locking}
use Rattle.timing.specs.Holds.{locked, obeyed, ticked}

-- the hold on a channel, counted from 1
abbrev pub hold_on : List ℕ → ℕ → ℕ
hold_on hs channel = slice_index hs (channel - 1)

-- a byte with the bit of each locked channel, where the first has the bit b
abbrev pub locked_bits : ℕ → List ℕ → ℕ
locked_bits b [] = 0
locked_bits b (h ∷ hs) = cond (locked h) b 0 + locked_bits (2 * b) hs

-- the holds whose bits are named do what is asked, where the first has the bit b
abbrev pub on_named : Locking → ℕ → ℕ → List ℕ → List ℕ
on_named l bits b [] = []
on_named l bits b (h ∷ hs) = cond (has_bit bits b) (obeyed l h) h ∷ on_named l bits (2 * b) hs

-- so they do if anything is asked
abbrev pub held_after : Option Locking → ℕ → List ℕ → List ℕ
held_after None bits hs = hs
held_after (Some l) bits hs = on_named l bits 1 hs

-- a second passes for each
abbrev pub all_ticked : List ℕ → List ℕ
all_ticked hs = map ticked hs
