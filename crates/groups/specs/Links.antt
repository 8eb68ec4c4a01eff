-- What a link is, and the group of an address. Assumes nothing.
use Rattle.std.specs.Prelude.{◌≡◌, ℕ, ◌<◌, ◌≤◌, ◌↔◌, Bool, true, ◌&&◌, List, length, take, drop, ◌==◌}
use Rattle.std.specs.List.{list_any, All, AllPairs, Contains}
use Rattle.station.specs.Kinds.{Seat, links}

-- some seat at the address b links the address c
abbrev pub link : List Seat → ℕ → ℕ → Bool
link ss b c = list_any (λ s. s.address == b && links s.kind s.address s.content c) ss

-- no link crosses the border of a set of addresses
abbrev pub Uncrossed : (ℕ → Bool) → List Seat → Type 0
Uncrossed g ss = (b c : ℕ) → link ss b c ≡ true → g b ≡ g c

-- an address belongs to the group of the address a: it is a, or a member links it, or it links a member. The links are a
-- relation here, since they can be told in more than one way
pub data Belongs (linked : ℕ → ℕ → Bool) (a : ℕ) : ℕ → Type 0 where
  itself : Belongs linked a a
  linked_by : (b c : ℕ) → Belongs linked a b → linked b c ≡ true → Belongs linked a c
  links_to : (b c : ℕ) → Belongs linked a c → linked b c ≡ true → Belongs linked a b

-- an address of the group among some seats
abbrev pub InGroup : List Seat → ℕ → ℕ → Type 0
InGroup ss a b = Belongs (link ss) a b

-- some addresses are listed at the front of a buffer: the first n numbers of it are these addresses, all of them, from the
-- smallest up and so each once, and the other places are as they were
pub record Lists (Within : ℕ → Type 0) (n : ℕ) (old new : List ℕ) : Type 0 where
  pub fits : n ≤ length new
  pub members : All Within (take n new)
  pub complete : (b : ℕ) → Within b → Contains (take n new) b
  pub once : AllPairs (λ b c. b < c) (take n new)
  pub rest : drop n new ≡ drop n old
  pub size : length new ≡ length old

-- the group of the address a is listed
abbrev pub ListsGroup : List Seat → ℕ → ℕ → List ℕ → List ℕ → Type 0
ListsGroup ss a n old new = Lists (InGroup ss a) n old new

-- an address is in its own group
abbrev pub OwnGroup : Type 0
OwnGroup = (ss : List Seat) (a : ℕ) → InGroup ss a a

-- no link leads out of a group or into it
abbrev pub ClosedGroup : Type 0
ClosedGroup = (ss : List Seat) (a b c : ℕ) → link ss b c ≡ true → InGroup ss a b ↔ InGroup ss a c

-- a set that has the address, and whose border no link crosses, has the whole group
abbrev pub SmallestGroup : Type 0
SmallestGroup = (ss : List Seat) (a : ℕ) (g : ℕ → Bool) → g a ≡ true → Uncrossed g ss → (b : ℕ) → InGroup ss a b → g b ≡ true
