-- How large memories are. Assumes nothing.
use Rattle.std.specs.Prelude.{ℕ}
use Rattle.terms.specs.declared.modules.ModuleType.{ModuleType}
use Rattle.terms.specs.declared.modules.ModuleType.TheVariants.{Relay, Panel, Buttons}

-- how many cells a module of that type has
abbrev pub cells_of : ModuleType → ℕ
cells_of Relay = 1024
cells_of Panel = 256
cells_of Buttons = 1024
