-- What holds of lists of seats, and of two of them one after the other. Assumes nothing.
use Rattle.std.specs.Prelude.{◌≡◌, ℕ, zero, suc, ◌+◌, ◌*◌, ◌<◌, ◌≤◌, Bool, true, false, cond, List, [], ◌∷◌, ◌++◌, length, Some, ◌==◌, refl}
use Rattle.std.proofs.Common.{sym, ap, ◌∙◌, add_assoc, zero-add, arith, length-append}
use Rattle.std.specs.List.{AllByRecursion}
use Rattle.std.proofs.ByRecursion.{All-append}
use Rattle.std.proofs.lemmas.Bool.{or_parts, true≢false}
use Rattle.bus.specs.declared.frame.Frame.{Frame}
use Rattle.station.specs.declared.event.Event.{Event}
use Rattle.station.specs.declared.event.Event.TheVariants.{Heard, Second, Pushed}
use Rattle.station.specs.Kinds.{Seat, after, sent, outcome}
use Rattle.station.specs.declared.addresses.Addresses.{Addresses}
use Rattle.station.specs.Listed.{added, listed}
use Rattle.station.specs.Rules.{Sound, Stands}
use Rattle.station.specs.Sieves.{passes}
use Rattle.station.specs.Seats.{after_all, sent_all, some_hears, count_at, first_at, asked}

pub count_at-append : (a : ℕ) (xs ys : List Seat) → count_at a (xs ++ ys) ≡ count_at a xs + count_at a ys
count_at-append a [] ys = sym (zero-add (count_at a ys))
count_at-append a (x ∷ xs) ys =
    let h = cond (x.address == a) 1 0 in
    ap (λ t. h + t) (count_at-append a xs ys) ∙ sym (add_assoc h (count_at a xs) (count_at a ys))

-- where the first list has a seat at the address, the first of both is the first of it
pub first_at_left : (a : ℕ) (xs ys : List Seat) → 0 < count_at a xs → first_at a (xs ++ ys) ≡ first_at a xs
first_at_left a [] ys h = absurd (omega arith)
first_at_left a (x ∷ xs) ys h = by (x.address == a) h (first_at_left a xs ys)
  where
    by : (b : Bool) → 0 < cond b 1 0 + count_at a xs → (0 < count_at a xs → first_at a (xs ++ ys) ≡ first_at a xs) → cond b (Some x) (first_at a (xs ++ ys)) ≡ cond b (Some x) (first_at a xs)
    by true p rest = refl
    by false p rest = rest (omega arith)

-- where it has none, it is the first of the second list
pub first_at_right : (a : ℕ) (xs ys : List Seat) → count_at a xs ≡ 0 → first_at a (xs ++ ys) ≡ first_at a ys
first_at_right a [] ys h = refl
first_at_right a (x ∷ xs) ys h = by (x.address == a) h (first_at_right a xs ys)
  where
    by : (b : Bool) → cond b 1 0 + count_at a xs ≡ 0 → (count_at a xs ≡ 0 → first_at a (xs ++ ys) ≡ first_at a ys) → cond b (Some x) (first_at a (xs ++ ys)) ≡ first_at a ys
    by true p rest = absurd (omega arith)
    by false p rest = rest (omega arith)

-- so an answer that is the first list's where that has a seat at the address, and else the second's, is that of both
pub first_asked : {A : Type 0} (d : A) (f : Seat → A) (a : ℕ) (xs ys : List Seat) (r : A) → (0 < count_at a xs → r ≡ asked d f (first_at a xs)) → (count_at a xs ≡ 0 → r ≡ asked d f (first_at a ys)) → r ≡ asked d f (first_at a (xs ++ ys))
first_asked d f a xs ys r left right = by (count_at a xs) refl
  where
    by : (n : ℕ) → count_at a xs ≡ n → r ≡ asked d f (first_at a (xs ++ ys))
    by zero e = right e ∙ sym (ap (asked d f) (first_at_right a xs ys e))
    by (suc n) e = let some : 0 < count_at a xs = omega arith in left some ∙ sym (ap (asked d f) (first_at_left a xs ys some))

-- nine frames a seat at most
pub few_sent : (e : Event) (ss : List Seat) → AllByRecursion Sound ss → length (sent_all e ss) ≤ 9 * length ss
few_sent e [] h = omega arith
few_sent e (s ∷ ss) h = simp length-append (omega (arith, (h.0.1 []).nine e, few_sent e ss h.1))

-- a frame that no seat hears changes no seat, and none sends
pub unheard_same : (f : Frame) (ss : List Seat) → AllByRecursion Sound ss → some_hears f ss ≡ false → after_all (Heard f) ss ≡ ss
unheard_same f [] h n = refl
unheard_same f (s ∷ ss) h n =
    let parts = or_parts _ _ n in
    let here : (outcome (Heard f) s).after ≡ s.content = ((h.0.1 []).unreached (Heard f) parts.0).0 in
    let same : after (Heard f) s ≡ s = λ i. record { kind = s.kind; address = s.address; content = here i } in
    λ i. same i ∷ unheard_same f ss h.1 parts.1 i

pub unheard_mute : (f : Frame) (ss : List Seat) → AllByRecursion Sound ss → some_hears f ss ≡ false → sent_all (Heard f) ss ≡ []
unheard_mute f [] h n = refl
unheard_mute f (s ∷ ss) h n =
    let parts = or_parts _ _ n in
    let here : sent (Heard f) s ≡ [] = ((h.0.1 []).unreached (Heard f) parts.0).1 in
    ap (λ t. t ++ sent_all (Heard f) ss) here ∙ unheard_mute f ss h.1 parts.1

pub stands-append : (xs ys : List Seat) → Stands xs → Stands ys → Stands (xs ++ ys)
stands-append xs ys h k = (simp length-append (omega (arith, h.0)), All-append Sound xs ys h.1 k.1)

-- what a sieve does not hand down changes no seat, and none sends
pub stopped_same : (e : Event) (ss : List Seat) → AllByRecursion Sound ss → passes e ss ≡ false → after_all e ss ≡ ss
stopped_same (Heard f) ss h n = unheard_same f ss h n
stopped_same Second ss h n = absurd (true≢false n)
stopped_same (Pushed p) ss h n = absurd (true≢false n)

pub stopped_mute : (e : Event) (ss : List Seat) → AllByRecursion Sound ss → passes e ss ≡ false → sent_all e ss ≡ []
stopped_mute (Heard f) ss h n = unheard_mute f ss h n
stopped_mute Second ss h n = absurd (true≢false n)
stopped_mute (Pushed p) ss h n = absurd (true≢false n)

pub listed-append : (xs ys : List Seat) (r : Addresses) → listed (xs ++ ys) r ≡ listed ys (listed xs r)
listed-append [] ys r = refl
listed-append (x ∷ xs) ys r = listed-append xs ys (added x.address r)
