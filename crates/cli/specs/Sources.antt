-- What a source of input is called. Assumes nothing.
use Rattle.std.specs.Prelude.{ℕ, List, Option, Some, None, bytes_eq, codes, if◌then◌else◌}

-- `-` and no name are standard input, and every other name is that of a file
abbrev pub source_name : Option (List ℕ) → List ℕ
source_name None = codes "standard input"
source_name (Some name) = if bytes_eq name (codes "-") then codes "standard input" else name
