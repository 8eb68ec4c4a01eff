-- Runs that are made of shorter ones. Assumes nothing.
use Rattle.std.proofs.Common.{◌≡◌, Bool, true, ◌==◌, List, [], ◌∷◌, ◌++◌, refl, sym, subst, ap, ◌∙◌}
use Rattle.std.specs.List.{list_all}
use Rattle.std.proofs.lemmas.Bool.{and_parts, eqb-true}
use Rattle.house.specs.Answers.{Answer, refused, accepted, counts, cleared, byte}
use Rattle.station.specs.Kinds.{Seat}
use Rattle.house.specs.declared.call.Call.{Call}
use Rattle.house.specs.Turns.{Bus, called}
use Rattle.runs.specs.Runs.{Entry, entry, Run}
use Rattle.runs.specs.Isolation.{Always, ClearsNothing}

-- a run from a bus to another, with a fact that holds of the seats at the start and after every entry
abbrev pub Steps : (List Seat → Type 0) → Bus → List Entry → Bus → Type 0
Steps P x [] y = (y ≡ x) × P x.seats
Steps P x (e ∷ es) y = (e ≡ entry x e.call) × P x.seats × Steps P (called e.call x) es y

pub record Course (P : List Seat → Type 0) (x : Bus) (es : List Entry) (y : Bus) : Type 0 where
  pub steps : Steps P x es y

module _ (P : List Seat → Type 0) where
  join : (es fs : List Entry) (x y z : Bus) → Steps P x es y → Steps P y fs z → Steps P x (es ++ fs) z
  join [] fs x y z h k = subst (λ w. Steps P w fs z) h.0 k
  join (e ∷ es) fs x y z h k = (h.0, h.1, join es fs (called e.call x) y z h.2 k)

  run_by : (es : List Entry) (x y : Bus) → Steps P x es y → Run x es y
  run_by [] x y h = h.0
  run_by (e ∷ es) x y h = (h.0, run_by es (called e.call x) y h.2)

  always_by : (Q : List Seat → Type 0) → ((ss : List Seat) → P ss → Q ss) → (es : List Entry) (x y : Bus) → Steps P x es y → Always Q x es
  always_by Q f [] x y h = f x.seats h.1
  always_by Q f (e ∷ es) x y h = (f x.seats h.1, always_by Q f es (called e.call x) y h.2)

-- a course of one entry more in front, and of none
pub then : {P : List Seat → Type 0} {c : Call} {es : List Entry} {x y : Bus} → P x.seats → Course P (called c x) es y → Course P x (entry x c ∷ es) y
then h k = record { steps = (refl, h, k.steps) }

pub done : {P : List Seat → Type 0} {x : Bus} → P x.seats → Course P x [] x
done h = record { steps = (refl, h) }

pub joined : {P : List Seat → Type 0} {es fs : List Entry} {x y z : Bus} → Course P x es y → Course P y fs z → Course P x (es ++ fs) z
joined {P} {es} {fs} {x} {y} {z} h k = record { steps = join P es fs x y z h.steps k.steps }

pub run_of : {P : List Seat → Type 0} {es : List Entry} {x y : Bus} → Course P x es y → Run x es y
run_of {P} {es} {x} {y} h = run_by P es x y h.steps

pub always_of : {P Q : List Seat → Type 0} {es : List Entry} {x y : Bus} → ((ss : List Seat) → P ss → Q ss) → Course P x es y → Always Q x es
always_of {P} {Q} {es} {x} {y} f h = always_by P Q f es x y h.steps

-- the answer is not that frames were cleared
abbrev pub clears_none : Answer → Bool
clears_none (refused n) = true
clears_none accepted = true
clears_none (counts s p) = true
clears_none (cleared n) = n == 0
clears_none (byte b) = true

pub clears_nothing : (es : List Entry) → list_all (λ e. clears_none e.answer) es ≡ true → ClearsNothing es
clears_nothing [] h = tt
clears_nothing (e ∷ es) h =
    let both = and_parts (clears_none e.answer) (list_all (λ d. clears_none d.answer) es) h in
    ((λ n c. eqb-true n 0 (sym (ap clears_none c) ∙ both.0)), clears_nothing es both.1)
