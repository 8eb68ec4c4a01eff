-- Lines of hexadecimal text. Assumes nothing.
use Rattle.std.specs.Prelude.{ℕ, ◌/◌, ◌%◌, List, [], ◌∷◌, ◌++◌}
use Rattle.std.specs.List.{flat_map}
use Rattle.hextext.specs.Digits.{upper_digit}

-- a byte as two digits, the high one first
abbrev pub digits : ℕ → List ℕ
digits b = upper_digit (b / 16) ∷ upper_digit (b % 16) ∷ []

-- bytes with a space between each two
abbrev pub spaced : List ℕ → List ℕ
spaced [] = []
spaced (b ∷ rest) = digits b ++ flat_map (λ x. 32 ∷ digits x) rest

-- a line ends with a line break
abbrev pub line_of : List ℕ → List ℕ
line_of bytes = spaced bytes ++ 10 ∷ []
