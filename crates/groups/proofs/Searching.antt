-- What holds while a group is searched for. Assumes nothing.
use Rattle.std.proofs.Common.{◌≡◌, ℕ, ◌+◌, ◌<◌, ◌≤◌, ◌⊎◌, inl, inr, Bool, true, false, cond, not, ◌||◌, ltb, List, [], ◌∷◌, length, get_or, set, replicate, refl, sym, ap, ◌∙◌, arith, length-set}
use Rattle.std.specs.List.{AllByRecursion, count_by}
use Rattle.std.proofs.lemmas.List.{get_or-replicate, length-replicate, get_or-set_same, get_or-set_other, get_or_past}
use Rattle.std.proofs.lemmas.List.Sums.{sum_by-set}
use Rattle.std.proofs.lemmas.Bool.{cases_eq, false≢true}
use Rattle.std.proofs.lemmas.Bool.Decides.{nat_tests}
use Rattle.station.specs.Kinds.{Seat}
use Rattle.station.specs.Rules.{Sound}
use Rattle.groups.specs.Links.{Belongs, itself, linked_by, links_to}
use Rattle.groups.specs.Marks.{first_link, marked, touches, Follows, MarksGroup}
use Rattle.groups.proofs.Members.{every_member}

-- every marked address belongs, and what touches a followed one is marked
pub record Searching (r : ℕ → ℕ → Bool) (a : ℕ) (marks followed : List Bool) : Type 0 where
  pub sound : (b : ℕ) → marked marks b ≡ true → Belongs r a b
  pub start : marked marks a ≡ true
  pub size : length followed ≡ 256
  pub spread : (b c : ℕ) → marked followed b ≡ true → c < 256 → touches r b c ≡ true → marked marks c ≡ true

-- only the addresses of a byte are linked or link
abbrev pub Bytes : (ℕ → ℕ → Bool) → Type 0
Bytes r = (b c : ℕ) → r b c ≡ true → (b < 256) × (c < 256)

-- how many addresses are still to be followed
abbrev pub unfollowed : List Bool → ℕ
unfollowed followed = count_by not followed

pub fewer : (followed : List Bool) (b : ℕ) → b < length followed → marked followed b ≡ false → unfollowed (set followed b true) < unfollowed followed
fewer followed b h e = omega (arith, sum_by-set (λ x. cond (not x) 1 0) followed b true false h, ap {B = ℕ} (λ t. cond (not t) 1 0) e)

unmarked : (n b : ℕ) → get_or (replicate n false) b false ≡ false
unmarked n b = by (ltb b n) refl
  where
    by : (t : Bool) → ltb b n ≡ t → get_or (replicate n false) b false ≡ false
    by true e = grind (arith, nat_tests, get_or-replicate n b false false)
    by false e = grind (arith, nat_tests, get_or_past (replicate n false) b false, length-replicate n false)

-- what is marked after one more mark is that or was marked
one_more : (xs : List Bool) (b c : ℕ) → marked (set xs b true) c ≡ true → (c ≡ b) ⊎ (marked xs c ≡ true)
one_more xs b c h = by (cases_eq c b)
  where
    by : (c ≡ b) ⊎ (c ≡ b → ⊥) → (c ≡ b) ⊎ (marked xs c ≡ true)
    by (inl e) = inl e
    by (inr n) = inr (sym (get_or-set_other xs b c true false n) ∙ h)

module _ (r : ℕ → ℕ → Bool) (a : ℕ) where
  pub searching_none : a < 256 → Searching r a (set (replicate 256 false) a true) (replicate 256 false)
  searching_none h = record { size = length-replicate 256 false; sound = here; start = get_or-set_same (replicate 256 false) a true false (omega (arith, length-replicate 256 false)); spread = λ b c f. absurd (false≢true (sym (unmarked 256 b) ∙ f)) }
    where
      here : (b : ℕ) → marked (set (replicate 256 false) a true) b ≡ true → Belongs r a b
      here b m = by (one_more (replicate 256 false) a b m)
        where
          by : (b ≡ a) ⊎ (marked (replicate 256 false) b ≡ true) → Belongs r a b
          by (inl e) = rw e itself
          by (inr f) = absurd (false≢true (sym (unmarked 256 b) ∙ f))

  touched : (b c : ℕ) → Belongs r a b → touches r b c ≡ true → Belongs r a c
  touched b c m t = by (r b c) refl t
    where
      by : (x : Bool) → r b c ≡ x → (x || r c b) ≡ true → Belongs r a c
      by true e h = linked_by b c m e
      by false e h = links_to c b m h

  pub searching_more : (marks after followed : List Bool) (b : ℕ) → length after ≡ 256 → Searching r a marks followed → marked marks b ≡ true → Follows r b marks after → a < 256 → Searching r a after (set followed b true)
  searching_more marks after followed b size s m f small = record { size = length-set followed b true ∙ s.size; sound = sound; start = grows a small s.start; spread = spread }
    where
      grows : (c : ℕ) → c < 256 → marked marks c ≡ true → marked after c ≡ true
      grows c h e = f c h ∙ ap (λ t. t || touches r b c) e

      within : (c : ℕ) → c < 256 → (x : Bool) → marked marks c ≡ x → (x || touches r b c) ≡ true → Belongs r a c
      within c h true e p = s.sound c e
      within c h false e p = touched b c (s.sound b m) p

      sound : (c : ℕ) → marked after c ≡ true → Belongs r a c
      sound c e = by (ltb c 256) refl
        where
          by : (t : Bool) → ltb c 256 ≡ t → Belongs r a c
          by true p = let h : c < 256 = grind (arith, nat_tests) in within c h (marked marks c) refl (sym (f c h) ∙ e)
          by false p = let past : length after ≤ c = grind (arith, nat_tests) in absurd (false≢true (sym (get_or_past after c false past) ∙ e))

      spread : (d c : ℕ) → marked (set followed b true) d ≡ true → c < 256 → touches r d c ≡ true → marked after c ≡ true
      spread d c e h t = by (one_more followed b d e)
        where
          by : (d ≡ b) ⊎ (marked followed d ≡ true) → marked after c ≡ true
          by (inl same) = f c h ∙ ap (λ x. marked marks c || x) (sym (ap (λ x. touches r x c) same) ∙ t) ∙ grind arith
          by (inr old) = grows c h (s.spread d c old h t)

  pub searching_done : (marks followed : List Bool) → Bytes r → ((b : ℕ) → b < 256 → marked marks b ≡ true → marked followed b ≡ true) → Searching r a marks followed → MarksGroup r a marks
  searching_done marks followed bytes all s = record { sound = s.sound; complete = every_member r (λ b. marked marks b ≡ true) on back a s.start }
    where
      on : (b c : ℕ) → r b c ≡ true → marked marks b ≡ true → marked marks c ≡ true
      on b c l m = let h = bytes b c l in s.spread b c (all b h.0 m) h.1 (ap (λ t. t || r c b) l)

      back : (b c : ℕ) → r b c ≡ true → marked marks c ≡ true → marked marks b ≡ true
      back b c l m = let h = bytes b c l in s.spread c b (all c h.1 m) h.0 (ap (λ t. r c b || t) l ∙ grind arith)

-- the first seat at an address is a sound one
pub bytes_linked : (ss : List Seat) → AllByRecursion Sound ss → Bytes (first_link ss)
bytes_linked [] sound b c l = absurd (false≢true l)
bytes_linked (s ∷ ss) sound b c l = grind (arith, nat_tests, bytes_linked ss sound.1 b c, sound.0.0)

-- one address more is marked as it is to be
pub follow_more : (r : ℕ → ℕ → Bool) (b : ℕ) (old now : List Bool) (i : ℕ) → i < length now → ((c : ℕ) → c < i → marked now c ≡ (marked old c || touches r b c)) → ((c : ℕ) → i ≤ c → marked now c ≡ marked old c) → (c : ℕ) → c < i + 1 → marked (set now i (marked now i || touches r b i)) c ≡ (marked old c || touches r b c)
follow_more r b old now i h done left c l = by (cases_eq c i)
  where
    by : (c ≡ i) ⊎ (c ≡ i → ⊥) → marked (set now i (marked now i || touches r b i)) c ≡ (marked old c || touches r b c)
    by (inl e) = rw e (get_or-set_same now i (marked now i || touches r b i) false h ∙ ap (λ t. t || touches r b i) (left i (omega arith)))
    by (inr n) = get_or-set_other now i c (marked now i || touches r b i) false n ∙ done c (omega arith)

-- and those that follow stay as they were
pub follow_left : (old now : List Bool) (i : ℕ) (t : Bool) → ((c : ℕ) → i ≤ c → marked now c ≡ marked old c) → (c : ℕ) → i + 1 ≤ c → marked (set now i t) c ≡ marked old c
follow_left old now i t left c h = get_or-set_other now i c t false (λ e. omega arith) ∙ left c (omega arith)
