-- Which log is read from bytes. Assumes nothing.
use Rattle.std.specs.Prelude.{◌≡◌, ℕ, List, [], ◌∷◌, take, drop, nat_eq, if◌then◌else◌, Bool, is_some, ◌||◌, ◌==◌, Ok}
use Rattle.std.specs.List.{starts_with}
use Rattle.hextext.specs.Digits.{digit_value}
use Rattle.hextext.specs.Reading.{is_gap, meaning}
use Rattle.input.specs.declared.form.Form.{Form}
use Rattle.input.specs.declared.form.Form.TheVariants.{Binary, Hex}

-- a text may begin with the byte-order mark, which is no part of it
abbrev pub has_mark : List ℕ → Bool
has_mark bytes = starts_with nat_eq bytes (0xEF ∷ 0xBB ∷ 0xBF ∷ [])

abbrev pub without_mark : List ℕ → List ℕ
without_mark bytes = if has_mark bytes then drop 3 bytes else bytes

-- of the bytes, as they are or as a text tells them, the first 60,000 are the log
abbrev pub Reads : Form → List ℕ → List ℕ → Type 0
Reads Binary bytes log = log ≡ take 60000 bytes
Reads Hex bytes log = (all : List ℕ) × (meaning (without_mark bytes) ≡ Ok all) × (log ≡ take 60000 all)

-- bytes that begin as a text can, with a digit, a space, a line break, `#` or the mark, are one
abbrev pub form_of : List ℕ → Form
form_of [] = Binary
form_of (b ∷ bytes) =
    if is_some (digit_value b) || is_gap b || b == 35 || has_mark (b ∷ bytes) then Hex else Binary
