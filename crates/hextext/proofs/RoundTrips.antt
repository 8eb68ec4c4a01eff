-- What was written is read back. Assumes nothing.
use Rattle.std.proofs.Common.{◌≡◌, ℕ, ◌+◌, ◌*◌, ◌/◌, ◌%◌, ◌<◌, ◌==◌, true, false, List, [], ◌∷◌, ◌++◌, map, Some, Result, Ok, Err, refl, sym, ap, ◌∙◌, arith}
use Rattle.std.specs.List.{All, concat, flat_map}
use Rattle.std.proofs.lemmas.List.{append_assoc, append-nil}
use Rattle.std.proofs.lemmas.List.Elements.{All-head, All-tail}
use Rattle.std.proofs.lemmas.Bool.Decides.{nat_tests}
use Rattle.hextext.specs.declared.error.Position.{Position}
use Rattle.hextext.specs.declared.error.ReadError.{ReadError}
use Rattle.hextext.specs.declared.mode.Mode.TheVariants.{Between, Second}
use Rattle.hextext.specs.declared.mode.Step.TheVariants.{To, Byte}
use Rattle.hextext.specs.Digits.{digit_value, upper_digit}
use Rattle.hextext.specs.Reading.{after, is_gap, step, before, followed, begun, ended, reading}
use Rattle.hextext.specs.Lines.{digits, spaced, line_of}
use Rattle.hextext.specs.RoundTrip.{RoundTrip}
use Rattle.hextext.proofs.Readings.{prepend, prepend-nil, reading-cons}

prepend-append : (bs cs : List ℕ) (r : Result (List ℕ) ReadError) → prepend bs (prepend cs r) ≡ prepend (bs ++ cs) r
prepend-append bs cs (Ok rest) = ap Ok (sym (append_assoc bs cs rest))
prepend-append bs cs (Err e) = refl

before-is : (b : ℕ) (r : Result (List ℕ) ReadError) → before b r ≡ prepend (b ∷ []) r
before-is b (Ok rest) = refl
before-is b (Err e) = refl

-- wherever a text begins between bytes, it says these bytes, and ends between bytes
abbrev Says : List ℕ → List ℕ → Type 0
Says text bs = (at : Position) (rest : List ℕ) → (to : Position) × (reading Between at (text ++ rest) ≡ prepend bs (reading Between to rest))

says_none : Says [] []
says_none at rest = (at, prepend-nil (reading Between at rest))

says_both : (text more bs cs : List ℕ) → Says text bs → Says more cs → Says (text ++ more) (bs ++ cs)
says_both text more bs cs s t at rest =
    let first = s at (more ++ rest) in
    let second = t first.0 rest in
    (second.0, ap (reading Between at) (append_assoc text more rest) ∙ first.1 ∙ ap (prepend bs) second.1 ∙ prepend-append bs cs _)

says_gap : (c : ℕ) → is_gap c ≡ true → Says (c ∷ []) []
says_gap c g at rest =
    let s : step Between at c ≡ Ok (To Between) = rw g refl in
    (after at c, reading-cons Between at c rest ∙ ap (λ r. followed r (λ next. reading next (after at c) rest)) s ∙ prepend-nil _)

says_pair : (c d high low : ℕ) → is_gap c ≡ false → (c == 35) ≡ false → digit_value c ≡ Some high → digit_value d ≡ Some low → Says (c ∷ d ∷ []) ((high * 16 + low) ∷ [])
says_pair c d high low g h first second at rest =
    let s : step Between at c ≡ Ok (To (Second high at)) = rw (g, h) (ap (begun at) first) in
    let t : step (Second high at) (after at c) d ≡ Ok (Byte (high * 16 + low)) = ap (ended high at (after at c) d) second in (
      after (after at c) d,
      reading-cons Between at c (d ∷ rest)
          ∙ ap (λ r. followed r (λ next. reading next (after at c) (d ∷ rest))) s
          ∙ reading-cons (Second high at) (after at c) d rest
          ∙ ap (λ r. followed r (λ next. reading next (after (after at c) d) rest)) t
          ∙ before-is (high * 16 + low) _,
    )

digit_value-upper : (n : ℕ) → n < 16 → digit_value (upper_digit n) ≡ Some n
digit_value-upper n h = grind (arith, nat_tests)

is_gap-upper : (n : ℕ) → n < 16 → is_gap (upper_digit n) ≡ false
is_gap-upper n h = grind (arith, nat_tests)

hash-upper : (n : ℕ) → n < 16 → (upper_digit n == 35) ≡ false
hash-upper n h = grind (arith, nat_tests)

says_byte : (b : ℕ) → b < 256 → Says (digits b) (b ∷ [])
says_byte b h =
    let high : b / 16 < 16 = omega arith in
    let low : b % 16 < 16 = omega arith in
    let whole : b / 16 * 16 + b % 16 ≡ b = omega arith in
    let pair = says_pair (upper_digit (b / 16)) (upper_digit (b % 16)) (b / 16) (b % 16) (is_gap-upper _ high) (hash-upper _ high) (digit_value-upper _ high) (digit_value-upper _ low) in
    rw whole at pair

abbrev IsByte : ℕ → Type 0
IsByte b = b < 256

says_more : (bs : List ℕ) → All IsByte bs → Says (flat_map (λ x. 32 ∷ digits x) bs) bs
says_more [] h = says_none
says_more (b ∷ bs) h =
    says_both (32 ∷ digits b) (flat_map (λ x. 32 ∷ digits x) bs) (b ∷ []) bs
    (says_both (32 ∷ []) (digits b) [] (b ∷ []) (says_gap 32 refl) (says_byte b (All-head IsByte b bs h)))
    (says_more bs (All-tail IsByte b bs h))

says_spaced : (bs : List ℕ) → All IsByte bs → Says (spaced bs) bs
says_spaced [] h = says_none
says_spaced (b ∷ bs) h =
    says_both (digits b) (flat_map (λ x. 32 ∷ digits x) bs) (b ∷ []) bs
    (says_byte b (All-head IsByte b bs h)) (says_more bs (All-tail IsByte b bs h))

says_line : (bs : List ℕ) → All IsByte bs → Says (line_of bs) bs
says_line bs h = rw append-nil at (says_both (spaced bs) (10 ∷ []) bs [] (says_spaced bs h) (says_gap 10 refl))

says_lines : (lines : List (List ℕ)) → All (All IsByte) lines → Says (concat (map line_of lines)) (concat lines)
says_lines [] h = says_none
says_lines (bs ∷ lines) h =
    says_both (line_of bs) (concat (map line_of lines)) bs (concat lines)
    (says_line bs (All-head (All IsByte) bs lines h)) (says_lines lines (All-tail (All IsByte) bs lines h))

pub round_trip : RoundTrip
unfolding reading
round_trip lines h =
    let all = says_lines lines h (record { line = 1; column = 1; offset = 0 }) [] in
    ap (reading Between (record { line = 1; column = 1; offset = 0 })) (sym (append-nil (concat (map line_of lines)))) ∙ all.1 ∙ ap Ok (append-nil (concat lines))
