-- What the builder of a house can get wrong, looking at every seat. Assumes nothing.
use Rattle.std.specs.Prelude.{◌≡◌, ℕ, Bool, false, ◌||◌, List, [], ◌∷◌, length, Some, None, Option, Result, MatchResult, ◌==◌, nat_lt}
use Rattle.std.specs.Option.{option_map}
use Rattle.std.specs.List.{list_any, find}
use Rattle.bus.specs.declared.refusal.Refusal.{Refusal}
use Rattle.bus.specs.declared.refusal.Refusal.TheVariants.{SeatAddress, AddressTwice, TooManySeats}
use Rattle.bus.specs.Refusals.{number}
use Rattle.station.specs.declared.addresses.Addresses.{Addresses}
use Rattle.station.specs.Kinds.{Seat}
use Rattle.station.specs.Seats.{count_at}

-- refusals, each with whether it applies, in the order in which they are looked at
abbrev pub Checks : Type 0
Checks = List (Bool × Refusal)

-- the first that applies
abbrev pub first_refusal : Checks → Option Refusal
first_refusal cs = option_map (λ c. c.1) (find (λ c. c.0) cs)

-- its number
abbrev pub first_number : Checks → Option ℕ
first_number cs = option_map number (first_refusal cs)

-- r is the value, unless something refuses it: then r is that refusal
abbrev pub OkUnless : {A : Type 0} → Result A Refusal → Option Refusal → A → Type 0
OkUnless r o x = MatchResult r (λ y. (o ≡ None) × (y ≡ x)) (λ e. o ≡ Some e)

-- some seat's address is 0 or 255
abbrev pub bad_address : List Seat → Bool
bad_address ss = list_any (λ s. s.address == 0 || s.address == 255) ss

-- some address is borne by two seats
abbrev pub address_twice : List Seat → Bool
address_twice [] = false
address_twice (s ∷ ss) = nat_lt 0 (count_at s.address ss) || address_twice ss

-- the builder's faults; a house has 16 seats at most
abbrev pub builder : List Seat → Checks
builder ss = (bad_address ss, SeatAddress) ∷ (address_twice ss, AddressTwice) ∷ (nat_lt 16 (length ss), TooManySeats) ∷ []

-- the fault that the builder is told of
abbrev pub fault_of : List Seat → Option Refusal
fault_of ss = first_refusal (builder ss)

-- the same, from the list of the addresses
abbrev pub faulted : Addresses → Option Refusal
faulted r = first_refusal ((r.outside, SeatAddress) ∷ (r.twice, AddressTwice) ∷ (nat_lt 16 r.count, TooManySeats) ∷ [])
