-- The usable addresses below a bound, from the smallest up. Assumes nothing.
use Rattle.std.proofs.Common.{◌≡◌, ℕ, zero, suc, ◌<◌, ◌≤◌, ◌⊎◌, inl, inr, Bool, true, false, cond, List, [], ◌∷◌, ◌++◌, length, take, drop, refl, arith}
use Rattle.std.specs.List.{All, AllPairs, Contains}
use Rattle.std.proofs.lemmas.List.Elements.{All-nil, All-push, All-weaker, Contains-append_left, Contains-push}
use Rattle.std.proofs.lemmas.List.Quantifiers.{all_pairs_push}
use Rattle.std.proofs.lemmas.List.{append-nil}
use Rattle.std.proofs.lemmas.Bool.{cases_eq}
use Rattle.std.proofs.lemmas.Bool.Decides.{nat_tests}
use Rattle.groups.specs.Links.{Lists}
use Rattle.groups.specs.Marks.{usable}

abbrev pub one_if : Bool → ℕ → List ℕ
one_if t k = cond t (k ∷ []) []

abbrev pub below : List Bool → ℕ → List ℕ
below marks zero = []
below marks (suc k) = below marks k ++ one_if (usable marks k) k

module _ (marks : List Bool) where
  pub all_usable : (k : ℕ) → All (λ b. usable marks b ≡ true) (below marks k)
  all_usable zero = All-nil (λ b. usable marks b ≡ true)
  all_usable (suc k) = by (usable marks k) refl (all_usable k)
    where
      by : (t : Bool) → usable marks k ≡ t → All (λ b. usable marks b ≡ true) (below marks k) → All (λ b. usable marks b ≡ true) (below marks k ++ one_if t k)
      by true e h = All-push (λ b. usable marks b ≡ true) (below marks k) k h e
      by false e h = rw append-nil h

  pub all_below : (k : ℕ) → All (λ b. b < k) (below marks k)
  all_below zero = All-nil (λ b. b < zero)
  all_below (suc k) = by (usable marks k) (All-weaker (λ b. b < k) (λ b. b < suc k) (λ b h. omega arith) (below marks k) (all_below k))
    where
      by : (t : Bool) → All (λ b. b < suc k) (below marks k) → All (λ b. b < suc k) (below marks k ++ one_if t k)
      by true h = All-push (λ b. b < suc k) (below marks k) k h (omega arith)
      by false h = rw append-nil h

  pub rising : (k : ℕ) → AllPairs (λ b c. b < c) (below marks k)
  rising zero = λ i j d p q. absurd (omega arith)
  rising (suc k) = by (usable marks k) (rising k)
    where
      by : (t : Bool) → AllPairs (λ b c. b < c) (below marks k) → AllPairs (λ b c. b < c) (below marks k ++ one_if t k)
      by true h = all_pairs_push (λ b c. b < c) (below marks k) k h (λ j d l. all_below k j d l)
      by false h = rw append-nil h

  pub all_there : (k b : ℕ) → b < k → usable marks b ≡ true → Contains (below marks k) b
  all_there zero b h u = absurd (omega arith)
  all_there (suc k) b h u = by (cases_eq b k) (λ l. all_there k b l u)
    where
      by : (b ≡ k) ⊎ (b ≡ k → ⊥) → (b < k → Contains (below marks k) b) → Contains (below marks k ++ one_if (usable marks k) k) b
      by (inl e) rest = rw (← e) (rw u (Contains-push (below marks b) b))
      by (inr n) rest = Contains-append_left (below marks k) (one_if (usable marks k) k) b (rest (omega arith))

usable_small : (marks : List Bool) (b : ℕ) → usable marks b ≡ true → b < 255
usable_small marks b u = grind (arith, nat_tests)

-- so they are listed where they stand at the front
pub listed : (marks : List Bool) (k n : ℕ) (old new : List ℕ) → 255 ≤ k → n ≤ length new → length new ≡ length old → take n new ≡ below marks k → drop n new ≡ drop n old → Lists (λ b. usable marks b ≡ true) n old new
listed marks k n old new h fits size front rest =
    record {
      fits = fits;
      members = rw front (all_usable marks k);
      complete = λ b u. let small = usable_small marks b u in rw front (all_there marks k b (omega arith) u);
      once = rw front (rising marks k);
      rest = rest;
      size = size;
    }
