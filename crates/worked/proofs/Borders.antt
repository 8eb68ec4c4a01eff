-- Which seats link nothing across the border of the group. Assumes nothing.
use Rattle.std.proofs.Common.{◌≡◌, ℕ, zero, suc, ◌<◌, Bool, true, false, cond, not, ◌||◌, List, [], ◌∷◌, is_some, Some, None, ◌==◌, nat_le, nat_lt, ◌&&◌, slice_index, sym, refl, ap, ◌∙◌, inl, inr, arith}
use Rattle.std.specs.List.{AllByRecursion}
use Rattle.std.proofs.lemmas.Bool.{and_parts, or_cases, or_parts, cases_Bool, eqb-true, ltb-true, leb-true, both_ways, false≢true}
use Rattle.module.specs.Searches.{first}
use Rattle.station.specs.Kinds.{Record, Seat, links}
use Rattle.panel.specs.declared.panel.PanelSetup.{PanelSetup}
use Rattle.relay.specs.declared.relay.RelaySetup.{RelaySetup}
use Rattle.relay.specs.Tables.{table, pair_cell, matches, named_in, named}
use Rattle.relay.specs.declared.query.Query.{Query}
use Rattle.chime.specs.Chimes.{followed, chime_kind}
use Rattle.kinds.specs.Kinds.{relay_kind, panel_kind}
use Rattle.groups.specs.Links.{link, Uncrossed}
use Rattle.worked.specs.WorkedRun.{group, no_links, linked_cells}

-- where a search finds, one for a weaker test finds
module _ (t w : ℕ → Bool) (weaker : (p : ℕ) → t p ≡ true → w p ≡ true) where
  found_too : (i n : ℕ) → is_some (first t i n) ≡ true → is_some (first w i n) ≡ true
  unfolding first
  found_too i zero h = h
  found_too i (suc n) h = by (t i) (w i) (weaker i) h (found_too (suc i) n)
    where
      by : (a b : Bool) → (a ≡ true → b ≡ true) → is_some (cond a (Some i) (first t (suc i) n)) ≡ true → (is_some (first t (suc i) n) ≡ true → is_some (first w (suc i) n) ≡ true) →
          is_some (cond b (Some i) (first w (suc i) n)) ≡ true
      by true true f l k = refl
      by true false f l k = absurd (false≢true (f refl))
      by false true f l k = refl
      by false false f l k = k l

-- on one side of the border
abbrev same : Bool → Bool → Bool
same true b = b
same false b = not b

same_eq : (a b : Bool) → same a b ≡ true → a ≡ b
same_eq true true h = refl
same_eq true false h = absurd (false≢true h)
same_eq false true h = absurd (false≢true h)
same_eq false false h = refl

module _ (g : ℕ → Bool) where
  -- an address that cannot be linked, or is on that side of the border
  abbrev fine : Bool → ℕ → Bool
  fine side a = nat_le 255 a || same side (g a)

  -- the address of pair p of channel c is neither
  abbrev stray : Bool → List ℕ → ℕ → ℕ → Bool
  stray side cells c p = not (fine side (slice_index cells (pair_cell c p)))

  -- some pair of channel c has such an address
  abbrev stray_in : Bool → List ℕ → ℕ → Bool
  stray_in side cells c = is_some (first (stray side cells c) 0 120)

  -- some pair of the cells has such an address. This is no abbreviation, so that it is computed only where it is wanted
  pub some_stray : Bool → List ℕ → Bool
  some_stray side cells = stray_in side cells 0 || (stray_in side cells 1 || (stray_in side cells 2 || stray_in side cells 3))

module _ (g : ℕ → Bool) (side : Bool) (cells : List ℕ) (a : ℕ) where
  fine_in : (c : ℕ) → stray_in g side cells c ≡ false → named_in cells c a ≡ true → fine g side a ≡ true
  fine_in c none h =
      let q : Query = record { address = a; buttons = None } in
      let at : (p : ℕ) → ℕ = λ p. slice_index cells (pair_cell c p) in
      elim (cases_Bool (fine g side a)) [
        | inl e ↦ e
        | inr e ↦
            let matched : (p : ℕ) → matches cells c q p ≡ true → stray g side cells c p ≡ true = λ p m.
            let rest = and_parts (at p == a) true (and_parts (not (table p == 3)) (at p == a && true) m).1 in
            ap (λ x. not (fine g side x)) (eqb-true (at p) a rest.0) ∙ ap not e in
            absurd (both_ways (stray_in g side cells c) none (found_too (matches cells c q) (stray g side cells c) matched 0 120 h))
      ]

  fine_named : some_stray g side cells ≡ false → named cells a ≡ true → fine g side a ≡ true
  unfolding some_stray
  fine_named none h =
      let one = or_parts (stray_in g side cells 0) _ none in
      let two = or_parts (stray_in g side cells 1) _ one.1 in
      let three = or_parts (stray_in g side cells 2) _ two.1 in
      elim (or_cases (named_in cells 0 a) _ h) [
        | inl l ↦ fine_in 0 one.0 l
        | inr r ↦
            elim (or_cases (named_in cells 1 a) _ r) [
              | inl l ↦ fine_in 1 two.0 l
              | inr s ↦ elim (or_cases (named_in cells 2 a) _ s) [ inl l ↦ fine_in 2 three.0 l | inr l ↦ fine_in 3 three.1 l ]
            ]
      ]

-- the seat links nothing across the border of a set
abbrev pub Within : (ℕ → Bool) → Seat → Type 0
Within g s = (c : ℕ) → links s.kind s.address s.content c ≡ true → g s.address ≡ g c

module _ (g : ℕ → Bool) where
  pub relay_within : (s : RelaySetup) (own : ℕ) (r : Record) → some_stray g (g own) r.cells ≡ false → Within g (record { kind = relay_kind s; address = own; content = r })
  relay_within s own r none c l =
      let inside = and_parts (nat_lt c 255) _ (and_parts (nat_lt 0 c) _ l).1 in
      let below : c < 255 = ltb-true c 255 inside.0 in
      let named_c : named r.cells c ≡ true = (and_parts (not (c == own)) (named r.cells c) inside.1).1 in
      elim (or_cases (nat_le 255 c) (same (g own) (g c)) (fine_named g (g own) r.cells c none named_c)) [
        | inl e ↦ absurd (omega (arith, leb-true 255 c e))
        | inr e ↦ same_eq (g own) (g c) e
      ]

  -- a panel links nothing
  pub panel_within : (s : PanelSetup) (own : ℕ) (r : Record) → Within g (record { kind = panel_kind s; address = own; content = r })
  panel_within s own r c l = absurd (false≢true (and_parts (not (c == own)) false (and_parts (nat_lt c 255) _ (and_parts (nat_lt 0 c) _ l).1).1).1)

  -- a chime links the one address that it follows
  pub chime_within : (tone own : ℕ) (r : Record) → g own ≡ g (followed r) → Within g (record { kind = chime_kind tone; address = own; content = r })
  chime_within tone own r same_side c l =
      let inside = and_parts (nat_lt c 255) _ (and_parts (nat_lt 0 c) _ l).1 in
      same_side ∙ ap g (sym (eqb-true c (followed r) (and_parts (not (c == own)) (c == followed r) inside.1).1))

  pub uncrossed : (ss : List Seat) → AllByRecursion (Within g) ss → Uncrossed g ss
  uncrossed [] h b c e = absurd (false≢true e)
  uncrossed (s ∷ ss) h b c e =
      let links_c = links s.kind s.address s.content c in
      elim (or_cases (s.address == b && links_c) (link ss b c) e) [
        | inl l ↦ let both = and_parts (s.address == b) links_c l in ap g (sym (eqb-true s.address b both.0)) ∙ h.0 c both.1
        | inr r ↦ uncrossed ss h.1 b c r
      ]

-- the cells without links have no such pair, and the linked ones neither
pub none_stray : (side : Bool) → some_stray group side no_links ≡ false
unfolding first some_stray
none_stray true = refl
none_stray false = refl

pub none_stray_here : some_stray group true (linked_cells 0x20) ≡ false
unfolding first some_stray
none_stray_here = refl

pub none_stray_there : some_stray group false (linked_cells 0x40) ≡ false
unfolding first some_stray
none_stray_there = refl

-- the relay and the panel that it links, alone
abbrev pub pair : ℕ → Bool
pair a = a == 0x10 || a == 0x20

pub none_stray_of_pair : some_stray pair true (linked_cells 0x20) ≡ false
unfolding first some_stray
none_stray_of_pair = refl
