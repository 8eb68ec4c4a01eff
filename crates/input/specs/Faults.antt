-- What is said of a log that cannot be read. Assumes nothing.
use Rattle.std.specs.Prelude.{◌≡◌, ⊤, ℕ, List, Err, IsSomeAnd}
use Rattle.hextext.specs.declared.error.ReadError.{ReadError}
use Rattle.hextext.specs.Reading.{meaning}
use Rattle.hextext.specs.Words.{place_of, word_about}
use Rattle.input.specs.declared.error.LogError.{LogError}
use Rattle.input.specs.declared.error.LogError.TheVariants.{Unreadable, Text, NoMemory}
use Rattle.input.specs.declared.form.Form.{Form}
use Rattle.input.specs.declared.form.Form.TheVariants.{Binary, Hex}
use Rattle.input.specs.Forms.{without_mark}

-- of a fault in a text: the fault, and the word about its place; or there is no memory for the word
abbrev pub IsFaultIn : List ℕ → ReadError → LogError → Type 0
IsFaultIn text fault (Text told word) = (told ≡ fault) × IsSomeAnd (place_of fault) (λ at. word.items ≡ word_about text at.offset)
IsFaultIn text fault NoMemory = ⊤
IsFaultIn text fault (Unreadable e) = ⊥

-- of bytes that are to be read in that form: a text can be at fault, and is told the fault that it has
abbrev pub IsFaultOf : LogError → Form → List ℕ → Type 0
IsFaultOf (Unreadable e) form bytes = ⊤
IsFaultOf NoMemory form bytes = ⊤
IsFaultOf (Text fault word) Binary bytes = ⊥
IsFaultOf (Text fault word) Hex bytes = (meaning (without_mark bytes) ≡ Err fault) × IsFaultIn (without_mark bytes) fault (Text fault word)
