-- Addresses that are marked in a row of 256, and which of them are a group. Assumes nothing.
use Rattle.std.specs.Prelude.{◌≡◌, ℕ, ◌<◌, ◌≤◌, Bool, true, false, ◌&&◌, ◌||◌, List, length, Option, MatchOption, nat_lt, slice_index_or}
use Rattle.station.specs.Kinds.{Seat}
use Rattle.station.specs.Seats.{first_links}
use Rattle.groups.specs.Links.{Belongs, Lists}

-- the first seat at the address b links the address c: where no two seats share an address, this is a link
abbrev pub first_link : List Seat → ℕ → ℕ → Bool
first_link ss b c = first_links b c ss

-- the address is marked
abbrev pub marked : List Bool → ℕ → Bool
marked marks b = slice_index_or marks b false

-- the address is marked, and one that a module can have: 1 to 254
abbrev pub usable : List Bool → ℕ → Bool
usable marks b = nat_lt 0 b && (nat_lt b 255 && marked marks b)

-- one of the two addresses links the other
abbrev pub touches : (ℕ → ℕ → Bool) → ℕ → ℕ → Bool
touches linked b c = linked b c || linked c b

-- what an address links, and what links it, is marked besides
abbrev pub Follows : (ℕ → ℕ → Bool) → ℕ → List Bool → List Bool → Type 0
Follows linked b old new = (c : ℕ) → c < 256 → marked new c ≡ (marked old c || touches linked b c)

-- the marked addresses are the group of the address a
pub record MarksGroup (linked : ℕ → ℕ → Bool) (a : ℕ) (marks : List Bool) : Type 0 where
  pub sound : (b : ℕ) → marked marks b ≡ true → Belongs linked a b
  pub complete : (b : ℕ) → Belongs linked a b → marked marks b ≡ true

-- the usable marked addresses are listed at the front of a buffer and counted, unless it is too short: then it is as it was
abbrev pub ListsUsable : List Bool → Option ℕ → List ℕ → List ℕ → Type 0
ListsUsable marks r old new =
    MatchOption r ((length old < 254) × (new ≡ old)) (λ n. (254 ≤ length old) × Lists (λ b. usable marks b ≡ true) n old new)
