-- What was written is read back. Assumes nothing.
use Rattle.std.specs.Prelude.{◌≡◌, ℕ, ◌<◌, List, Ok, map}
use Rattle.std.specs.List.{All, concat}
use Rattle.hextext.specs.Reading.{meaning}
use Rattle.hextext.specs.Lines.{line_of}

-- lines say the bytes that they were made of
abbrev pub RoundTrip : Type 0
RoundTrip = (lines : List (List ℕ)) → All (All (λ b. b < 256)) lines → meaning (concat (map line_of lines)) ≡ Ok (concat lines)
