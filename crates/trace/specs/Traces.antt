-- What steps and seconds make of a house that is shown. Assumes nothing.
use Rattle.std.specs.Prelude.{◌≡◌, ℕ, zero, suc, ◌≤◌}
use Rattle.house.specs.declared.call.Call.TheVariants.{Second, Step}
use Rattle.house.specs.Turns.{Bus, called}

-- after so many steps; a buffer has 144 places, enough for every house
unfoldable pub steps : ℕ → Bus → Bus
steps zero x = x
steps (suc n) x = called (Step 144) (steps n x)

-- some steps lead from one to the other, 256 at most
abbrev pub Stepped : Bus → Bus → Type 0
Stepped x y = (n : ℕ) × (n ≤ 256) × (y ≡ steps n x)

-- so many seconds do, with steps after each
abbrev pub Passed : ℕ → Bus → Bus → Type 0
Passed zero x y = y ≡ x
Passed (suc n) x y = (z : Bus) × Passed n x z × Stepped (called (Second 144) z) y

-- and no more than so many
abbrev pub PassedAtMost : ℕ → Bus → Bus → Type 0
PassedAtMost most x y = (n : ℕ) × (n ≤ most) × Passed n x y
