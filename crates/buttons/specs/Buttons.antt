-- How the button interface with eight buttons is designed, and what one remembers. Assumes nothing.
use Rattle.station.specs.Kinds.{Record}
use Rattle.module.specs.Designs.{Design}
use Rattle.interface.specs.declared.variant.Variant.{Variant}
use Rattle.interface.specs.declared.setup.InterfaceSetup.{InterfaceSetup}
use Rattle.interface.specs.Interfaces.{design as interface_design}
use Rattle.interface.specs.States.{encoded, state_of, cells_of}
use Rattle.buttons.specs.declared.buttons.ButtonInterface.{ButtonInterface}

-- type 0x16, eight buttons, and every channel bit counts
abbrev pub variant : Variant
variant = record { code = 0x16; buttons = 8; channels = 0xFF }

abbrev pub design : InterfaceSetup → Design
design s = interface_design variant s

-- what a button interface remembers
abbrev pub content : ButtonInterface → Record
content b = record { cells = cells_of b.interface; state = encoded (state_of b.interface) }
