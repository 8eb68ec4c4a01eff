-- What a house answers when asked for the group of an address. Assumes nothing.
use Rattle.std.specs.Prelude.{◌≡◌, ℕ, ◌≤◌, true, List, [], ◌∷◌, ◌++◌, length, Some, None, Option, Result, MatchResult, ◌==◌, nat_lt}
use Rattle.std.specs.List.{AllByRecursion}
use Rattle.bus.specs.declared.refusal.Refusal.{Refusal}
use Rattle.bus.specs.declared.refusal.Refusal.TheVariants.{ShortBuffer, NoSuchSeat}
use Rattle.bus.specs.Refusals.{number}
use Rattle.station.specs.Kinds.{Seat}
use Rattle.station.specs.Seats.{count_at}
use Rattle.groups.specs.Links.{ListsGroup}
use Rattle.house.specs.Faults.{Checks, first_refusal, builder}
use Rattle.house.specs.Turns.{Rises}

-- what refuses it, in order: a buffer has a place for each address that a module can have
abbrev pub group_checks : List Seat → ℕ → ℕ → Checks
group_checks ss a places = builder ss ++ (nat_lt places 254, ShortBuffer) ∷ (count_at a ss == 0, NoSuchSeat) ∷ []

-- the refusal, if there is one
abbrev pub group_refusal : List Seat → ℕ → ℕ → Option Refusal
group_refusal ss a places = first_refusal (group_checks ss a places)

-- the group is listed and its size answered, unless something refuses it: then that is answered, and the buffer is as it
-- was
abbrev pub AnswersGroup : List Seat → ℕ → Result ℕ Refusal → List ℕ → List ℕ → Type 0
AnswersGroup ss a r old new =
    MatchResult r (λ n. (group_refusal ss a (length old) ≡ None) × ListsGroup ss a n old new) (λ e. (group_refusal ss a (length old) ≡ Some e) × (new ≡ old))

-- the numbers are looked at from the smallest up
abbrev pub GroupNumbersRise : Type 0
GroupNumbersRise = (ss : List Seat) (a places : ℕ) → Rises (group_checks ss a places)

-- so of all refusals that apply, the one answered has the smallest number
abbrev pub SmallestGroupRefusal : Type 0
SmallestGroupRefusal =
    (ss : List Seat) (a places : ℕ) (r : Refusal) → group_refusal ss a places ≡ Some r → AllByRecursion (λ d. d.0 ≡ true → number r ≤ number d.1) (group_checks ss a places)
