-- What is said of a fault. Assumes nothing.
use Rattle.std.specs.Prelude.{ℕ, List, ◌++◌, codes}
use Rattle.std.specs.Fmt.{decimal}
use Rattle.hextext.specs.declared.error.Position.{Position}
use Rattle.hextext.specs.declared.error.ReadError.{ReadError}
use Rattle.hextext.specs.declared.error.ReadError.TheVariants.{BadDigit, LoneDigit, NoMemory}

-- a place, as editors and compilers tell it
abbrev pub place : Position → List ℕ
place at = decimal at.line ++ codes ":" ++ decimal at.column

-- a fault, after its place
abbrev pub message : ReadError → List ℕ
message (BadDigit at) = place at ++ codes ": not a hexadecimal digit"
message (LoneDigit at) = place at ++ codes ": a digit alone; a byte is two digits"
message NoMemory = codes "not enough memory for the bytes"
