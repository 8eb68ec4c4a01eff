-- Which frames are noted of the calls that are shown. Assumes nothing.
use Rattle.std.specs.Prelude.{ℕ, ◌+◌, cond, nat_lt, List, [], ◌∷◌, ◌++◌, Ok, Err, Result}
use Rattle.bus.specs.declared.frame.Frame.{Frame}
use Rattle.bus.specs.declared.refusal.Refusal.{Refusal}
use Rattle.house.specs.declared.call.Call.{Call}
use Rattle.house.specs.declared.call.Call.TheVariants.{Put, Push, Second, Step, Clear, Record}

-- the frame that a served call puts
abbrev pub frame_put : Call → List Frame
frame_put (Put f) = f ∷ []
frame_put (Push a c e n) = []
frame_put (Second n) = []
frame_put (Step n) = []
frame_put Clear = []
frame_put (Record a n) = []

-- the frames that come onto the bus by a call: the one that it puts, then those that were sent; by a refused call, none
abbrev pub arrived : {A : Type 0} → Call → Result A Refusal → List Frame → List Frame
arrived c (Ok x) fs = frame_put c ++ fs
arrived c (Err r) fs = []

-- how many frames have passed after a served call, where so many came and so many had passed: one more after a step, if one
-- waited, and all after a clear
abbrev pub passed_after : Call → ℕ → ℕ → ℕ
passed_after (Put f) came passed = passed
passed_after (Push a c e n) came passed = passed
passed_after (Second n) came passed = passed
passed_after (Step n) came passed = cond (nat_lt passed came) (passed + 1) passed
passed_after Clear came passed = came
passed_after (Record a n) came passed = passed

-- the same of any call; by a refused call, none passes
abbrev pub passed_by : {A : Type 0} → Call → Result A Refusal → ℕ → ℕ → ℕ
passed_by c (Ok x) came passed = passed_after c came passed
passed_by c (Err r) came passed = passed
