-- The loop of a reader. Assumes nothing.
use Rattle.std.proofs.Common.{◌≡◌, ℕ, ◌+◌, ◌<◌, ◌≤◌, ◌==◌, ◌||◌, ◌⊎◌, inl, inr, Bool, true, false, cond, List, [], ◌∷◌, ◌++◌, length, take, drop, get_or, Option, Some, None, Result, Ok, Err, refl, sym, ap, subst, ◌∙◌, arith}
use Rattle.std.proofs.lemmas.List.{append_assoc, append-nil, length-append, drop_all, drop_more, take_more, take-append-drop}
use Rattle.hextext.specs.declared.error.Position.{Position}
use Rattle.hextext.specs.declared.error.ReadError.{ReadError}
use Rattle.hextext.specs.declared.error.ReadError.TheVariants.{BadDigit, LoneDigit}
use Rattle.hextext.specs.declared.mode.Mode.{Mode}
use Rattle.hextext.specs.declared.mode.Mode.TheVariants.{Between, Second, Comment}
use Rattle.hextext.specs.declared.mode.Step.{Step}
use Rattle.hextext.specs.declared.mode.Step.TheVariants.{To, Byte}
use Rattle.hextext.specs.Digits.{digit_value}
use Rattle.hextext.specs.Reading.{after, is_gap, begun, ended, step, before, followed, reading, meaning, SaysAByte, HighFits}

-- the bytes so far, and then what follows
abbrev pub prepend : List ℕ → Result (List ℕ) ReadError → Result (List ℕ) ReadError
prepend front (Ok rest) = Ok (front ++ rest)
prepend front (Err e) = Err e

pub prepend-nil : (r : Result (List ℕ) ReadError) → r ≡ prepend [] r
prepend-nil (Ok rest) = refl
prepend-nil (Err e) = refl

-- where there is a byte, something was said
prepend-some : (front : List ℕ) (b : ℕ) (r : Result (List ℕ) ReadError) → prepend (front ++ b ∷ []) r ≡ Ok [] → ⊥
prepend-some front b (Ok rest) h =
    let e : (front ++ b ∷ []) ++ rest ≡ [] = cc in
    omega (arith, ap length e, length-append (front ++ b ∷ []) rest, length-append front (b ∷ []))
prepend-some front b (Err e) h = cc h

-- a byte moves to those before it
pub prepend-before : (front : List ℕ) (b : ℕ) (r : Result (List ℕ) ReadError) → prepend front (before b r) ≡ prepend (front ++ b ∷ []) r
prepend-before front b (Ok rest) = ap Ok (sym (append_assoc front (b ∷ []) rest))
prepend-before front b (Err e) = refl

-- a text that is not at its end
pub reading-cons : (mode : Mode) (at : Position) (c : ℕ) (rest : List ℕ) → reading mode at (c ∷ rest) ≡ followed (step mode at c) (λ next. reading next (after at c) rest)
unfolding reading
reading-cons Between at c rest = refl
reading-cons (Second high first) at c rest = refl
reading-cons Comment at c rest = refl

-- the value of a digit is below 16
digit_value-fits : (c high : ℕ) → digit_value c ≡ Some high → high < 16
digit_value-fits c high h = grind arith

begun-fits : (at : Position) (o : Option ℕ) (next : Mode) → ((high : ℕ) → o ≡ Some high → high < 16) → begun at o ≡ Ok (To next) → HighFits next
begun-fits at (Some high) next f h =
    let e : To (Second high at) ≡ To next = cc in
    let d : Second high at ≡ next = cc in
    subst HighFits d (f high refl)
begun-fits at None next f h = cc h

between-fits : (g hash : Bool) (at : Position) (c : ℕ) (next : Mode) → cond g (Ok (To Between)) (cond hash (Ok (To Comment)) (begun at (digit_value c))) ≡ Ok (To next) → HighFits next
between-fits true hash at c next h = let d : Between ≡ next = cc in subst HighFits d tt
between-fits false true at c next h = let d : Comment ≡ next = cc in subst HighFits d tt
between-fits false false at c next h = begun-fits at (digit_value c) next (digit_value-fits c) h

ended-fits : (high : ℕ) (first at : Position) (c : ℕ) (o : Option ℕ) (next : Mode) → ended high first at c o ≡ Ok (To next) → HighFits next
ended-fits high first at c (Some low) next h = cc h
ended-fits high first at c None next h = by (is_gap c || c == 35) h
  where
    by : (t : Bool) → cond t (Err (LoneDigit first)) (Err (BadDigit at)) ≡ Ok (To next) → HighFits next
    by true e = cc e
    by false e = cc e

comment-fits : (t : Bool) (next : Mode) → (let r : Result Step ReadError = Ok (cond t (To Between) (To Comment)) in r ≡ Ok (To next)) → HighFits next
comment-fits true next h = let d : Between ≡ next = cc in subst HighFits d tt
comment-fits false next h = let d : Comment ≡ next = cc in subst HighFits d tt

-- whatever a step leads to, its first digit is one
step-fits : (mode : Mode) (at : Position) (c : ℕ) (next : Mode) → step mode at c ≡ Ok (To next) → HighFits next
step-fits Between at c next h = between-fits (is_gap c) (c == 35) at c next h
step-fits (Second high first) at c next h = ended-fits high first at c (digit_value c) next h
step-fits Comment at c next h = comment-fits (c == 10) next h

-- what is known of a reader: its place is near, and it has read what the text says so far, whatever follows
pub record Reads (text : List ℕ) (i : ℕ) (items : List ℕ) (mode : Mode) (at : Position) : Type 0 where
  pub line : at.line ≤ i + 1
  pub column : at.column ≤ i + 1
  pub offset : at.offset ≤ i
  pub fits : HighFits mode
  pub so_far : (rest : List ℕ) → meaning (take i text ++ rest) ≡ prepend items (reading mode at rest)

-- so what it has read and what follows are what the text says
reads_all : (text : List ℕ) (i : ℕ) (items : List ℕ) (mode : Mode) (at : Position) → Reads text i items mode at → meaning text ≡ prepend items (reading mode at (drop i text))
reads_all text i items mode at r = ap meaning (sym (take-append-drop i text)) ∙ r.so_far (drop i text)

module _ (text : List ℕ) (i : ℕ) (items : List ℕ) (mode : Mode) (at : Position) where
  line_after : (c : ℕ) → at.line ≤ i + 1 → (after at c).line ≤ i + 1 + 1
  line_after c h = by (c == 10)
    where
      by : (t : Bool) → (let p : Position = cond t (record { line = at.line + 1; column = 1; offset = at.offset + 1 }) (record { line = at.line; column = at.column + 1; offset = at.offset + 1 }) in p.line ≤ i + 1 + 1)
      by true = omega arith
      by false = omega arith

  column_after : (c : ℕ) → at.column ≤ i + 1 → (after at c).column ≤ i + 1 + 1
  column_after c h = by (c == 10)
    where
      by : (t : Bool) → (let p : Position = cond t (record { line = at.line + 1; column = 1; offset = at.offset + 1 }) (record { line = at.line; column = at.column + 1; offset = at.offset + 1 }) in p.column ≤ i + 1 + 1)
      by true = omega arith
      by false = omega arith

  offset_after : (c : ℕ) → at.offset ≤ i → (after at c).offset ≤ i + 1
  offset_after c h = by (c == 10)
    where
      by : (t : Bool) → (let p : Position = cond t (record { line = at.line + 1; column = 1; offset = at.offset + 1 }) (record { line = at.line; column = at.column + 1; offset = at.offset + 1 }) in p.offset ≤ i + 1)
      by true = omega arith
      by false = omega arith

  -- one byte more of the text
  front : (rest : List ℕ) → i < length text → take (i + 1) text ++ rest ≡ take i text ++ get_or text i 0 ∷ rest
  front rest h = ap (λ t. t ++ rest) (take_more text i 0 h) ∙ append_assoc (take i text) (get_or text i 0 ∷ []) rest

  -- is a step
  stepped : (s : Result Step ReadError) (rest : List ℕ) → step mode at (get_or text i 0) ≡ s → reading mode at (get_or text i 0 ∷ rest) ≡ followed s (λ next. reading next (after at (get_or text i 0)) rest)
  stepped s rest e =
      reading-cons mode at (get_or text i 0) rest
      ∙ ap (λ r. followed r (λ next. reading next (after at (get_or text i 0)) rest)) e

  -- which leads on,
  pub reads_to : (next : Mode) → i < length text → step mode at (get_or text i 0) ≡ Ok (To next) → Reads text i items mode at → Reads text (i + 1) items next (after at (get_or text i 0))
  reads_to next h e r =
      record {
        line = line_after (get_or text i 0) r.line;
        column = column_after (get_or text i 0) r.column;
        offset = offset_after (get_or text i 0) r.offset;
        fits = step-fits mode at (get_or text i 0) next e;
        so_far = λ rest. ap meaning (front rest h) ∙ r.so_far (get_or text i 0 ∷ rest) ∙ ap (prepend items) (stepped (Ok (To next)) rest e);
      }

  -- or ends a byte,
  pub reads_byte : (b : ℕ) → i < length text → step mode at (get_or text i 0) ≡ Ok (Byte b) → Reads text i items mode at → Reads text (i + 1) (items ++ b ∷ []) Between (after at (get_or text i 0))
  reads_byte b h e r =
      record {
        line = line_after (get_or text i 0) r.line;
        column = column_after (get_or text i 0) r.column;
        offset = offset_after (get_or text i 0) r.offset;
        fits = tt;
        so_far = λ rest. ap meaning (front rest h) ∙ r.so_far (get_or text i 0 ∷ rest) ∙ ap (prepend items) (stepped (Ok (Byte b)) rest e) ∙ prepend-before items b _;
      }

  -- or is a fault
  pub reads_fault : (fault : ReadError) → i < length text → step mode at (get_or text i 0) ≡ Err fault → Reads text i items mode at → meaning text ≡ Err fault
  reads_fault fault h e r = reads_all text i items mode at r ∙ ap (prepend items) (ap (reading mode at) (drop_more text i 0 h) ∙ stepped (Err fault) (drop (i + 1) text) e)

  -- where a byte ends, the text says something
  pub reads_some : (b : ℕ) → i < length text → step mode at (get_or text i 0) ≡ Ok (Byte b) → Reads text i items mode at → meaning text ≡ Ok [] → ⊥
  reads_some b h e r none = prepend-some items b _ (sym (reads_all text (i + 1) (items ++ b ∷ []) Between (after at (get_or text i 0)) (reads_byte b h e r)) ∙ none)

  -- and so does the part of it up to there
  pub reads_needed : (b : ℕ) → i < length text → step mode at (get_or text i 0) ≡ Ok (Byte b) → Reads text i items mode at → SaysAByte text
  unfolding reading
  reads_needed b h e r = (
    i + 1,
    items ++ b ∷ [],
    ap meaning (sym (append-nil (take (i + 1) text))) ∙ (reads_byte b h e r).so_far [] ∙ ap Ok (append-nil (items ++ b ∷ [])),
    omega (arith, length-append items (b ∷ [])),
  )

  -- at the end of a text
  at_end : length text ≤ i → Reads text i items mode at → meaning text ≡ prepend items (reading mode at [])
  at_end h r = reads_all text i items mode at r ∙ ap (λ rest. prepend items (reading mode at rest)) (drop_all i text h)

-- a text that ends after a first digit
pub reads_lone : (text : List ℕ) (i : ℕ) (items : List ℕ) (mode : Mode) (high : ℕ) (first at : Position) → mode ≡ Second high first → length text ≤ i → Reads text i items mode at → meaning text ≡ Err (LoneDigit first)
unfolding reading
reads_lone text i items mode high first at e h r = at_end text i items mode at h r ∙ ap (λ m. prepend items (reading m at [])) e

-- and one that ends elsewhere
pub reads_whole : (text : List ℕ) (i : ℕ) (items : List ℕ) (mode : Mode) (at : Position) → (mode ≡ Between) ⊎ (mode ≡ Comment) → length text ≤ i → Reads text i items mode at → meaning text ≡ Ok items
unfolding reading
reads_whole text i items mode at (inl e) h r = at_end text i items mode at h r ∙ ap (λ m. prepend items (reading m at [])) e ∙ ap Ok (append-nil items)
reads_whole text i items mode at (inr e) h r = at_end text i items mode at h r ∙ ap (λ m. prepend items (reading m at [])) e ∙ ap Ok (append-nil items)
