-- The words of a text. Assumes nothing.
use Rattle.std.specs.Prelude.{ℕ, ◌+◌, ◌-◌, ◌==◌, ◌||◌, Bool, not, List, length, take, drop, min, Option, Some, None}
use Rattle.std.specs.List.{prefix_len, suffix_len}
use Rattle.hextext.specs.declared.error.Position.{Position}
use Rattle.hextext.specs.declared.error.ReadError.{ReadError}
use Rattle.hextext.specs.declared.error.ReadError.TheVariants.{BadDigit, LoneDigit, NoMemory}
use Rattle.hextext.specs.Reading.{is_gap}

-- no gap, and no beginning of a comment
abbrev pub is_of_word : ℕ → Bool
is_of_word c = not (is_gap c || c == 35)

-- what stands together before an offset of a text and from it on
abbrev pub word_about : List ℕ → ℕ → List ℕ
word_about text offset =
    let at = min offset (length text) in
    let before = suffix_len is_of_word (take at text) in
    let from = prefix_len is_of_word (drop at text) in
    take (before + from) (drop (at - before) text)

-- where a text is at fault
abbrev pub place_of : ReadError → Option Position
place_of (BadDigit at) = Some at
place_of (LoneDigit at) = Some at
place_of NoMemory = None
