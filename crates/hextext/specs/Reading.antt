-- What a text says. Assumes nothing.
use Rattle.std.specs.Prelude.{◌≡◌, ℕ, ◌+◌, ◌*◌, ◌<◌, ◌==◌, ◌||◌, ⊤, Bool, if◌then◌else◌, List, [], ◌∷◌, length, take, Option, Some, None, Result, Ok, Err}
use Rattle.hextext.specs.declared.error.Position.{Position}
use Rattle.hextext.specs.declared.error.ReadError.{ReadError}
use Rattle.hextext.specs.declared.error.ReadError.TheVariants.{BadDigit, LoneDigit}
use Rattle.hextext.specs.declared.mode.Mode.{Mode}
use Rattle.hextext.specs.declared.mode.Mode.TheVariants.{Between, Second, Comment}
use Rattle.hextext.specs.declared.mode.Step.{Step}
use Rattle.hextext.specs.declared.mode.Step.TheVariants.{To, Byte}
use Rattle.hextext.specs.Digits.{digit_value}

-- a space, tab, carriage return or line break
abbrev pub is_gap : ℕ → Bool
is_gap c = c == 32 || c == 9 || c == 13 || c == 10

-- the place after c, which may be a line break
abbrev pub after : Position → ℕ → Position
after at c =
    if c == 10 then record { line = at.line + 1; column = 1; offset = at.offset + 1 }
    else record { line = at.line; column = at.column + 1; offset = at.offset + 1 }

-- a first digit, or none where one should be
abbrev pub begun : Position → Option ℕ → Result Step ReadError
begun at (Some high) = Ok (To (Second high at))
begun at None = Err (BadDigit at)

-- c at a place between bytes: a gap, `#`, or the first digit of a byte
abbrev pub between : Position → ℕ → Result Step ReadError
between at c =
    if is_gap c then Ok (To Between)
    else if c == 35 then Ok (To Comment)
    else begun at (digit_value c)

-- a second digit, or c where one should be
abbrev pub ended : ℕ → Position → Position → ℕ → Option ℕ → Result Step ReadError
ended high first at c (Some low) = Ok (Byte (high * 16 + low))
ended high first at c None = if is_gap c || c == 35 then Err (LoneDigit first) else Err (BadDigit at)

-- c after a first digit
abbrev pub second : ℕ → Position → Position → ℕ → Result Step ReadError
second high first at c = ended high first at c (digit_value c)

-- c in a comment
abbrev pub within_comment : ℕ → Step
within_comment c = if c == 10 then To Between else To Comment

-- what c brings at a place
abbrev pub step : Mode → Position → ℕ → Result Step ReadError
step Between at c = between at c
step (Second high first) at c = second high first at c
step Comment at c = Ok (within_comment c)

-- a byte before those that follow
abbrev pub before : ℕ → Result (List ℕ) ReadError → Result (List ℕ) ReadError
before b (Ok rest) = Ok (b ∷ rest)
before b (Err e) = Err e

-- what a step brings and what follows say together
abbrev pub followed : Result Step ReadError → (Mode → Result (List ℕ) ReadError) → Result (List ℕ) ReadError
followed (Ok (To mode)) rest = rest mode
followed (Ok (Byte b)) rest = before b (rest Between)
followed (Err e) rest = Err e

-- what a text says from a place on: its bytes, or the first fault
unfoldable pub reading : Mode → Position → List ℕ → Result (List ℕ) ReadError
reading (Second high first) at [] = Err (LoneDigit first)
reading Between at [] = Ok []
reading Comment at [] = Ok []
reading mode at (c ∷ rest) = followed (step mode at c) (λ next. reading next (after at c) rest)

-- what a whole text says
abbrev pub meaning : List ℕ → Result (List ℕ) ReadError
meaning text = reading Between (record { line = 1; column = 1; offset = 0 }) text

-- some first part of a text says a byte, which takes memory
abbrev pub SaysAByte : List ℕ → Type 0
SaysAByte text = (n : ℕ) × (bytes : List ℕ) × (meaning (take n text) ≡ Ok bytes) × (0 < length bytes)

-- the first digit of a byte is a digit
abbrev pub HighFits : Mode → Type 0
HighFits (Second high first) = high < 16
HighFits Between = ⊤
HighFits Comment = ⊤
