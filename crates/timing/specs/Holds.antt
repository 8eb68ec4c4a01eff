-- What can be asked of the hold on a channel, and what a second makes of it. Assumes nothing.
use Rattle.std.specs.Prelude.{ℕ, ◌-◌, min, Bool, cond, not, ◌||◌, ◌==◌}
use Rattle.timing.specs.declared.locking.Locking.{Locking}
use Rattle.timing.specs.declared.locking.Locking.TheVariants.{Lock, Toggle, Unlock}

-- a hold is a number: 0 when the channel is free, 0xFFFFFF when it is locked without end, else the seconds left

-- the channel is locked
abbrev pub locked : ℕ → Bool
locked h = not (h == 0)

-- the hold for a time: 0xFFFFFF seconds and more have no end
abbrev pub hold_for : ℕ → ℕ
hold_for t = min t 0xFFFFFF

-- what is asked: to lock, whatever the hold was; to lock a free channel and free a locked one; to free
abbrev pub obeyed : Locking → ℕ → ℕ
obeyed (Lock t) h = hold_for t
obeyed (Toggle t) h = cond (locked h) 0 (hold_for t)
obeyed Unlock h = 0

-- what a second makes of a hold
abbrev pub ticked : ℕ → ℕ
ticked h = cond (h == 0 || h == 0xFFFFFF) h (h - 1)
