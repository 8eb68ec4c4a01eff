-- Where the builder made no fault, the group that was found is the group among all seats. Assumes nothing.
use Rattle.std.proofs.Common.{◌≡◌, ℕ, zero, suc, ◌<◌, ◌≤◌, Bool, true, false, List, [], ◌∷◌, length, Some, None, Option, refl, sym, ◌∙◌, arith}
use Rattle.std.specs.List.{AllByRecursion}
use Rattle.std.specs.Option.{ok_or}
use Rattle.std.proofs.lemmas.Bool.{false≢true}
use Rattle.std.proofs.lemmas.Bool.Decides.{nat_tests}
use Rattle.bus.specs.declared.refusal.Refusal.TheVariants.{ShortBuffer}
use Rattle.station.specs.Kinds.{Seat}
use Rattle.station.specs.Rules.{Sound}
use Rattle.station.specs.Seats.{count_at}
use Rattle.groups.specs.Links.{link, InGroup, Lists, ListsGroup}
use Rattle.groups.specs.Marks.{first_link, usable, MarksGroup, ListsUsable}
use Rattle.groups.proofs.Members.{told_otherwise, every_member, listed_otherwise}
use Rattle.house.specs.Faults.{bad_address, address_twice}
use Rattle.house.specs.Groups.{group_refusal, AnswersGroup}

-- one of the addresses that a module can have
abbrev Usual : ℕ → Type 0
Usual b = (0 < b) × (b < 255)

unseated : (ss : List Seat) (b c : ℕ) → count_at b ss ≡ 0 → link ss b c ≡ false
unseated [] b c h = refl
unseated (s ∷ ss) b c h = grind (arith, nat_tests, unseated ss b c)

seated : (ss : List Seat) (b c : ℕ) → link ss b c ≡ true → 0 < count_at b ss
seated ss b c l = by (count_at b ss) refl
  where
    by : (n : ℕ) → count_at b ss ≡ n → 0 < count_at b ss
    by zero e = absurd (false≢true (sym (unseated ss b c e) ∙ l))
    by (suc n) e = omega arith

-- with no two seats at an address, the first one's links are all links
same_links : (ss : List Seat) → address_twice ss ≡ false → (b c : ℕ) → first_link ss b c ≡ link ss b c
same_links [] h b c = refl
same_links (s ∷ ss) h b c = grind (arith, nat_tests, same_links ss, unseated ss b c)

usual_seat : (ss : List Seat) → AllByRecursion Sound ss → bad_address ss ≡ false → (b : ℕ) → 0 < count_at b ss → Usual b
usual_seat [] sound h b n = absurd (omega arith)
usual_seat (s ∷ ss) sound h b n = grind (arith, nat_tests, usual_seat ss sound.1, sound.0.0)

usual_target : (ss : List Seat) (b c : ℕ) → link ss b c ≡ true → Usual c
usual_target [] b c l = absurd (false≢true l)
usual_target (s ∷ ss) b c l = grind (arith, nat_tests, usual_target ss b c)

-- nothing refuses
record Clear (ss : List Seat) (a places : ℕ) : Type 0 where
  addresses : bad_address ss ≡ false
  room : 254 ≤ places
  once : address_twice ss ≡ false
  seat : 0 < count_at a ss

clear : (ss : List Seat) (a places : ℕ) → group_refusal ss a places ≡ None → Clear ss a places
clear ss a places h = record { addresses = grind (arith, nat_tests); room = grind (arith, nat_tests); once = grind (arith, nat_tests); seat = grind (arith, nat_tests) }

module _ (ss : List Seat) (a places : ℕ) (sound : AllByRecursion Sound ss) (h : group_refusal ss a places ≡ None) where
  usual_member : (b : ℕ) → InGroup ss a b → Usual b
  usual_member b m =
      let k = clear ss a places h in
      every_member (link ss) Usual (λ x y l u. usual_target ss x y l) (λ x y l u. usual_seat ss sound k.addresses x (seated ss x y l)) a (usual_seat ss sound k.addresses a k.seat) b m

  pub group_listed : (marks : List Bool) (n : ℕ) (old new : List ℕ) → MarksGroup (first_link ss) a marks → Lists (λ b. usable marks b ≡ true) n old new → ListsGroup ss a n old new
  group_listed marks n old new m = listed_otherwise (λ b. usable marks b ≡ true) (InGroup ss a) to from n old new
    where
      same : (b c : ℕ) → first_link ss b c ≡ link ss b c
      same = same_links ss (clear ss a places h).once

      to : (b : ℕ) → usable marks b ≡ true → InGroup ss a b
      to b u = told_otherwise (first_link ss) (link ss) (λ x y. sym (same x y)) a b (m.sound b (grind (arith, nat_tests)))

      from : (b : ℕ) → InGroup ss a b → usable marks b ≡ true
      from b g =
          let usual = usual_member b g in
          let there = m.complete b (told_otherwise (link ss) (first_link ss) same a b g) in
          grind (arith, nat_tests)

-- so the result of the listing is the answer
pub answered : (ss : List Seat) (a : ℕ) (marks : List Bool) (r : Option ℕ) (old new : List ℕ) → AllByRecursion Sound ss → group_refusal ss a (length old) ≡ None → MarksGroup (first_link ss) a marks → ListsUsable marks r old new → AnswersGroup ss a (ok_or r ShortBuffer) old new
answered ss a marks None old new sound h m l = let k = clear ss a (length old) h in absurd (omega (arith, k.room, l.0))
answered ss a marks (Some n) old new sound h m l = (h, group_listed ss a (length old) sound h marks n old new m l.1)
