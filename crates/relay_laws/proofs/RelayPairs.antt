-- The pair that a channel obeys is the one that the definitions find. Assumes nothing.
use Rattle.std.proofs.Common.{◌≡◌, ℕ, ◌+◌, ◌*◌, ◌/◌, ◌%◌, ◌<◌, ◌≢◌, true, false, not, ◌&&◌, eqb, List, get_or, is_some, Some, None, Option, sym, refl, ap, ◌∙◌, inl, inr, arith}
use Rattle.std.proofs.lemmas.Bool.{and_parts, eq-eqb, ne_eqb, both_ways, cases_eq, not-true, false≢true, true≢false}
use Rattle.bus.specs.declared.frame.Frame.{Frame}
use Rattle.bus.specs.Frames.{byte}
use Rattle.relay.specs.Relays.{query}
use Rattle.relay.specs.Tables.{pair_cell, matches, first_pair, in_common}
use Rattle.laws.specs.Channels.{ChannelNumber, index}
use Rattle.laws.specs.Pairs.{FirstMatch, NoMatch}
use Rattle.laws.proofs.Pairs.{first_pair_found, no_pair_found}
use Rattle.relay_laws.specs.RelayPairs.{place, pair_fits, FirstFits, NoneFits, PairNumber, Obeys}

-- a pair of the definitions is one of a table
pub counted : (c : ChannelNumber) (t i : ℕ) → pair_cell (index c) (15 * t + i) ≡ place c t i
counted c t i = omega arith

pub match_of : (cells : List ℕ) (c : ChannelNumber) (f : Frame) (t i : ℕ) → i < 15 → (t ≢ 3) → matches cells (index c) (query f) (15 * t + i) ≡ pair_fits cells c f t i
match_of cells c f t i l d =
    let other : not (eqb ((15 * t + i) / 15) 3) ≡ true = ap not (ne_eqb ((15 * t + i) / 15) 3 (λ e. d (omega arith))) in
    (λ j. other j && (eqb (get_or cells (counted c t i j) 0) f.address && in_common (Some (byte f 1)) (get_or cells (counted c t i j + 1) 0)))

-- table 3 fits nothing
skipped : (cells : List ℕ) (c : ChannelNumber) (f : Frame) (q : ℕ) → q / 15 ≡ 3 → matches cells (index c) (query f) q ≡ false
skipped cells c f q three =
    ap (λ b. not b && (eqb (get_or cells (pair_cell (index c) q) 0) f.address && in_common (Some (byte f 1)) (get_or cells (pair_cell (index c) q + 1) 0)))
    (eq-eqb (q / 15) 3 three)

pub first_match : (cells : List ℕ) (c : ChannelNumber) (f : Frame) (t i : ℕ) → t < 8 → (t ≢ 3) → FirstFits cells c f t i → FirstMatch cells (index c) (query f) (15 * t + i)
first_match cells c f t i l d h =
    let small : i < 15 = h.within in
    record {
      in_table = omega arith;
      matching = match_of cells c f t i h.within d ∙ h.it_fits;
      earlier = λ q m. before q m;
    }
  where
    before : (q : ℕ) → q < 15 * t + i → matches cells (index c) (query f) q ≡ false
    before q m =
        let whole : q ≡ 15 * (q / 15) + q % 15 = omega arith in
        elim (cases_eq (q / 15) 3) [
          | inl three ↦ skipped cells c f q three
          | inr other ↦
              ap (matches cells (index c) (query f)) whole
              ∙ (match_of cells c f (q / 15) (q % 15) (omega arith) other ∙ h.none_before (q / 15) (q % 15) (omega arith) other (omega arith))
        ]

-- none fits, in the words of the definitions
pub none_match : (cells : List ℕ) (c : ChannelNumber) (f : Frame) → NoneFits cells c f → NoMatch cells (index c) (query f)
none_match cells c f h q l =
    let whole : q ≡ 15 * (q / 15) + q % 15 = omega arith in
    elim (cases_eq (q / 15) 3) [
      | inl three ↦ skipped cells c f q three
      | inr other ↦ ap (matches cells (index c) (query f)) whole ∙ (match_of cells c f (q / 15) (q % 15) (omega arith) other ∙ h (q / 15) (q % 15) (omega arith) other (omega arith))
    ]

-- the number of a pair among the 120 of its channel
abbrev pub among_all : Option PairNumber → Option ℕ
among_all None = None
among_all (Some p) = Some (15 * p.table + p.number)

pub pair_found : (cells : List ℕ) (c : ChannelNumber) (f : Frame) (p : Option PairNumber) → Obeys cells c f p → first_pair cells (index c) (query f) ≡ among_all p
pair_found cells c f None h = (no_pair_found cells (index c) (query f)).1 (none_match cells c f h)
pair_found cells c f (Some p) h =
    (first_pair_found cells (index c) (query f) (15 * p.table + p.number)).1 (first_match cells c f p.table p.number h.in_tables h.not_the_third h.first)

-- the pair of a number
abbrev pub numbered : Option ℕ → Option PairNumber
numbered None = None
numbered (Some q) = Some (record { table = q / 15; number = q % 15 })

pub found_pair : (cells : List ℕ) (c : ChannelNumber) (f : Frame) (p : Option ℕ) → first_pair cells (index c) (query f) ≡ p → Obeys cells c f (numbered p)
found_pair cells c f None e = λ t i l d m. sym (match_of cells c f t i m d) ∙ (no_pair_found cells (index c) (query f)).0 e (15 * t + i) (omega arith)
found_pair cells c f (Some q) e =
    let m = (first_pair_found cells (index c) (query f) q).0 e in
    let within : q < 120 = m.in_table in
    let whole : q ≡ 15 * (q / 15) + q % 15 = omega arith in
    let here : matches cells (index c) (query f) q ≡ true = m.matching in
    let other : not (eqb (q / 15) 3) ≡ true = (and_parts (not (eqb (q / 15) 3)) _ here).0 in
    let third : q / 15 ≢ 3 = λ z. both_ways (eqb (q / 15) 3) (not-true (eqb (q / 15) 3) other) (eq-eqb (q / 15) 3 z) in
    record {
      in_tables = omega arith;
      not_the_third = third;
      first = record {
        within = omega arith;
        it_fits = sym (match_of cells c f (q / 15) (q % 15) (omega arith) third) ∙ (ap (matches cells (index c) (query f)) (sym whole) ∙ here);
        none_before = λ u j l d less. sym (match_of cells c f u j l d) ∙ m.earlier (15 * u + j) (omega arith);
      };
    }

-- two pairs with one number are one
same_pair : (p q : PairNumber) → p.number < 15 → q.number < 15 → 15 * p.table + p.number ≡ 15 * q.table + q.number → p ≡ q
same_pair p q l m e =
    let tables : p.table ≡ q.table = omega (arith, e) in
    let numbers : p.number ≡ q.number = omega (arith, e) in
    λ i. record { table = tables i; number = numbers i }

pub only_one : (cells : List ℕ) (c : ChannelNumber) (f : Frame) (p q : Option PairNumber) → Obeys cells c f p → Obeys cells c f q → p ≡ q
only_one cells c f p q h k = by p q h k (sym (pair_found cells c f p h) ∙ pair_found cells c f q k)
  where
    number_in : Option ℕ → ℕ
    number_in None = 120
    number_in (Some n) = n

    by : (p q : Option PairNumber) → Obeys cells c f p → Obeys cells c f q → among_all p ≡ among_all q → p ≡ q
    by None None h k e = refl
    by None (Some q) h k e = absurd (false≢true (ap is_some e))
    by (Some p) None h k e = absurd (true≢false (ap is_some e))
    by (Some p) (Some q) h k e = ap Some (same_pair p q h.first.within k.first.within (ap number_in e))
