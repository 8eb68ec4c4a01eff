-- What a clause reads of a hold. Assumes nothing.
use Rattle.std.specs.Prelude.{ℕ}
use Rattle.timing.specs.declared.hold.Hold.{Hold}

-- the number that a hold is
abbrev pub held : Hold → ℕ
held h = h.seconds
