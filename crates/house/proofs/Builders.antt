-- What the list of all addresses shows, and that no event changes it. Assumes nothing.
use Rattle.std.proofs.Common.{◌≡◌, ℕ, ◌+◌, ◌<◌, ◌≤◌, min, Bool, true, false, ◌||◌, eqb, ltb, List, [], ◌∷◌, length, get_or, set, None, refl, ◌∙◌, arith, length-set}
use Rattle.std.specs.List.{AllByRecursion, list_any}
use Rattle.std.proofs.lemmas.List.{get_or-replicate, length-map}
use Rattle.std.proofs.lemmas.Bool.Decides.{nat_tests}
use Rattle.std.proofs.lemmas.Grind.{common_steps}
use Rattle.station.specs.declared.addresses.Addresses.{Addresses}
use Rattle.station.specs.declared.event.Event.{Event}
use Rattle.station.specs.Kinds.{Seat, after}
use Rattle.station.specs.Listed.{no_addresses, added, listed}
use Rattle.station.specs.Rules.{Sound}
use Rattle.station.specs.Seats.{after_all, count_at}
use Rattle.house.specs.Faults.{bad_address, address_twice, fault_of, faulted}

outside_is : (ss : List Seat) (r : Addresses) → (listed ss r).outside ≡ (r.outside || bad_address ss)
outside_is [] r = grind (arith, nat_tests)
outside_is (s ∷ ss) r = grind (arith, nat_tests, outside_is ss (added s.address r))

count_is : (ss : List Seat) (r : Addresses) → r.count ≤ 17 → (listed ss r).count ≡ min 17 (r.count + length ss)
count_is [] r h = omega arith
count_is (s ∷ ss) r h = grind (arith, nat_tests, count_is ss (added s.address r))

-- some seat's address is listed already
abbrev seen : Addresses → List Seat → Bool
seen r ss = list_any (λ s. get_or r.seated s.address false) ss

-- what is listed of an address once another is added
seen_here : (a b : ℕ) (xs : List Bool) → a < length xs → get_or (set xs a true) b false ≡ (eqb b a || get_or xs b false)
seen_here a b xs h = grind (arith, common_steps, nat_tests)

seen_added : (a : ℕ) (r : Addresses) (ss : List Seat) → a < length r.seated → seen (added a r) ss ≡ (ltb 0 (count_at a ss) || seen r ss)
seen_added a r [] h = refl
seen_added a r (s ∷ ss) h = grind (arith, nat_tests, seen_here a s.address r.seated h, seen_added a r ss h)

twice_is : (ss : List Seat) (r : Addresses) → length r.seated ≡ 256 → AllByRecursion Sound ss → (listed ss r).twice ≡ (r.twice || (seen r ss || address_twice ss))
twice_is [] r l h = grind (arith, nat_tests)
twice_is (s ∷ ss) r l h =
    let within : s.address < length r.seated = omega (arith, h.0.0) in
    grind (arith, nat_tests, seen_added s.address r ss within, twice_is ss (added s.address r) (length-set r.seated s.address true ∙ l) h.1)

none_seen : (ss : List Seat) → AllByRecursion Sound ss → seen no_addresses ss ≡ false
none_seen [] h = refl
none_seen (s ∷ ss) h = grind (arith, get_or-replicate 256 s.address false false h.0.0, none_seen ss h.1)

module _ (ss : List Seat) (sound : AllByRecursion Sound ss) where
  pub fault_listed : faulted (listed ss no_addresses) ≡ fault_of ss
  fault_listed =
      grind (arith, nat_tests, outside_is ss no_addresses, twice_is ss no_addresses refl sound, none_seen ss sound, count_is ss no_addresses (omega arith))

  pub counted_all : faulted (listed ss no_addresses) ≡ None → (listed ss no_addresses).count ≡ length ss
  counted_all h = grind (arith, nat_tests, count_is ss no_addresses (omega arith))

bad_after : (e : Event) (ss : List Seat) → bad_address (after_all e ss) ≡ bad_address ss
bad_after e [] = refl
bad_after e (s ∷ ss) = grind (arith, bad_after e ss)

count_at_after : (a : ℕ) (e : Event) (ss : List Seat) → count_at a (after_all e ss) ≡ count_at a ss
count_at_after a e [] = refl
count_at_after a e (s ∷ ss) = grind (arith, count_at_after a e ss)

twice_after : (e : Event) (ss : List Seat) → address_twice (after_all e ss) ≡ address_twice ss
twice_after e [] = refl
twice_after e (s ∷ ss) = grind (arith, count_at_after s.address e ss, twice_after e ss)

-- no event changes the builder's faults
pub fault_of_after : (e : Event) (ss : List Seat) → fault_of (after_all e ss) ≡ fault_of ss
fault_of_after e ss = grind (arith, bad_after e ss, twice_after e ss, length-map ss (after e))
