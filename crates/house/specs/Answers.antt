-- What a call of a house answers, by number and by value. Assumes nothing.
use Rattle.std.specs.Prelude.{ℕ, Ok, Err, Option, Result}
use Rattle.bus.specs.declared.refusal.Refusal.{Refusal}
use Rattle.bus.specs.Refusals.{number}

-- what a call answers: the number of a refusal, plain consent, how many frames were sent and are pending, how many
-- were cleared, or a byte of a record if there is one
pub data Answer : Type 0 where
  refused : ℕ → Answer
  accepted : Answer
  counts : (sent pending : ℕ) → Answer
  cleared : ℕ → Answer
  byte : Option ℕ → Answer

-- a result of the code as an answer, where a value is shown as given
abbrev pub shown : {A : Type 0} → (A → Answer) → Result A Refusal → Answer
shown f (Ok x) = f x
shown f (Err r) = refused (number r)

-- the result of a put
abbrev pub shown_put : Result (Unit {0}) Refusal → Answer
shown_put = shown (λ _. accepted)

-- the result of a push, a second or a step: a pair of counts
abbrev pub shown_counts : Result (ℕ × ℕ) Refusal → Answer
shown_counts = shown (λ p. counts p.0 p.1)

-- the result of a clear: how many frames went
abbrev pub shown_clear : Result ℕ Refusal → Answer
shown_clear = shown cleared
