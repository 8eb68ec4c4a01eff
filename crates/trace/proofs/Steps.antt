-- No step, and one step more. Assumes nothing.
use Rattle.std.proofs.Common.{◌≡◌, ℕ, suc, ◌+◌, refl, ap, ◌∙◌, arith}
use Rattle.house.specs.declared.call.Call.TheVariants.{Step}
use Rattle.house.specs.Turns.{Bus, called}
use Rattle.trace.specs.Traces.{steps}

pub steps_none : (x : Bus) → x ≡ steps 0 x
unfolding steps
steps_none x = refl

-- one step more
pub steps_more : (n : ℕ) (x y z : Bus) → y ≡ steps n x → z ≡ called (Step 144) y → z ≡ steps (n + 1) x
unfolding steps
steps_more n x y z p q = let up : suc n ≡ n + 1 = omega arith in q ∙ (ap (called (Step 144)) p ∙ ap (λ k. steps k x) up)
