-- What follows from the first check that applies. Assumes nothing.
use Rattle.std.proofs.Common.{◌≡◌, ◌<◌, ◌≤◌, Bool, true, false, cond, [], ◌∷◌, Some, None, Option, Ok, Err, Result, ap, sym, ◌∙◌, arith}
use Rattle.std.specs.Option.{option_map}
use Rattle.std.specs.Result.{MatchResult}
use Rattle.std.specs.List.{AllByRecursion, find}
use Rattle.std.proofs.ByRecursion.{All-weaker}
use Rattle.std.proofs.lemmas.Bool.{false≢true}
use Rattle.bus.specs.declared.refusal.Refusal.{Refusal}
use Rattle.bus.specs.Refusals.{number, refusal_number}
use Rattle.house.specs.Faults.{Checks, first_refusal, OkUnless}
use Rattle.house.specs.declared.call.Call.TheVariants.{Put, Push, Second, Step, Clear, Record}
use Rattle.house.specs.Turns.{checks, Rises, NumbersRise, SmallestFirst}

-- what refuses, and what the value is then, can be said otherwise
pub OkUnless-same : {A : Type 0} (r : Result A Refusal) (o p : Option Refusal) (x y : A) → p ≡ o → (o ≡ None → x ≡ y) → OkUnless r o x → OkUnless r p y
OkUnless-same (Ok z) o p x y e f h = (e ∙ h.0, h.1 ∙ f h.0)
OkUnless-same (Err z) o p x y e f h = e ∙ h

-- the number of a result is that of the refusal that it is answered with
pub numbered : {A : Type 0} (r : Result A Refusal) (o : Option Refusal) (P : A → Type 0) (Q : Refusal → Type 0) → MatchResult r (λ x. (o ≡ None) × P x) (λ e. (o ≡ Some e) × Q e) → refusal_number r ≡ option_map number o
numbered (Ok x) o P Q h = ap (option_map number) (sym h.0)
numbered (Err e) o P Q h = ap (option_map number) (sym h.0)

-- no refusal that applies has a smaller number
abbrev Least : Refusal → Checks → Type 0
Least r cs = AllByRecursion (λ d. d.0 ≡ true → number r ≤ number d.1) cs

-- where the numbers rise, the first that applies is the smallest
smallest : (cs : Checks) → Rises cs → (r : Refusal) → first_refusal cs ≡ Some r → Least r cs
smallest [] h r e = tt
smallest (c ∷ cs) h r e = by c.0 e (smallest cs h.1 r)
  where
    by : (b : Bool) → option_map (λ d. d.1) (cond b (Some c) (find (λ d. d.0) cs)) ≡ Some r → (first_refusal cs ≡ Some r → Least r cs) → (b ≡ true → number r ≤ number c.1) × Least r cs
    by true p rest =
        let same : c.1 ≡ r = cc in
        let level = ap number same in
        ((λ _. omega arith), All-weaker (λ d. number c.1 < number d.1) (λ d. d.0 ≡ true → number r ≤ number d.1) (λ d l _. omega arith) cs h.0)
    by false p rest = ((λ f. absurd (false≢true f)), rest p)

pub numbers_rise : NumbersRise
numbers_rise ss q (Put f) = search arith
numbers_rise ss q (Push a c e n) = search arith
numbers_rise ss q (Second n) = search arith
numbers_rise ss q (Step n) = search arith
numbers_rise ss q Clear = search arith
numbers_rise ss q (Record a n) = tt

pub smallest_first : SmallestFirst
smallest_first ss q c r e = smallest (checks ss q c) (numbers_rise ss q c) r e
