-- The records of a group are those of its seats. Assumes nothing.
use Rattle.std.proofs.Common.{◌≡◌, ℕ, Bool, true, false, List, [], ◌∷◌, Some, refl, sym, ap, ◌∙◌, cond}
use Rattle.std.specs.Prelude.{◌==◌}
use Rattle.std.proofs.lemmas.Bool.{eq-eqb, eqb-true, false≢true, or_left, or_right}
use Rattle.station.specs.Kinds.{Seat, bytes}
use Rattle.station.specs.Seats.{first_at, asked, nth}
use Rattle.runs.specs.Isolation.{members}
use Rattle.pairing.specs.Groups.{within, SameRecords}

-- the first seat at an address of a group is that of the group's seats
first_of : (g : ℕ → Bool) (a : ℕ) (ss : List Seat) → g a ≡ true → first_at a (members g ss) ≡ first_at a ss
first_of g a [] h = refl
first_of g a (s ∷ ss) h = by (g s.address) refl (s.address == a) refl (first_of g a ss h)
  where
    by : (b : Bool) → g s.address ≡ b → (c : Bool) → (s.address == a) ≡ c → first_at a (members g ss) ≡ first_at a ss → first_at a (cond b (s ∷ members g ss) (members g ss)) ≡ cond c (Some s) (first_at a ss)
    by true e true d rest = ap (λ c. cond c (Some s) (first_at a (members g ss))) d
    by true e false d rest = ap (λ c. cond c (Some s) (first_at a (members g ss))) d ∙ rest
    by false e true d rest = absurd (false≢true (sym e ∙ (ap g (eqb-true _ _ d) ∙ h)))
    by false e false d rest = rest

all_records : (g : ℕ → Bool) (ss ts : List Seat) → members g ss ≡ members g ts → (group : List ℕ) → ((a : ℕ) → within group a ≡ true → g a ≡ true) → SameRecords ss ts group
all_records g ss ts same [] h = tt
all_records g ss ts same (a ∷ group) h =
    let here = h a (or_left _ _ (eq-eqb a a refl)) in
    let first : first_at a ss ≡ first_at a ts = sym (first_of g a ss here) ∙ (ap (first_at a) same ∙ first_of g a ts here) in
    ((λ n _. ap (asked _ (λ s. nth n (bytes s.content))) first), all_records g ss ts same group (λ b k. h b (or_right _ _ k)))

-- where the seats of a group are the same, so are its records
pub same_seats : (group : List ℕ) (ss ts : List Seat) → members (within group) ss ≡ members (within group) ts → SameRecords ss ts group
same_seats group ss ts same = all_records (within group) ss ts same group (λ a h. h)
