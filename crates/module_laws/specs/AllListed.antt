-- The commands for memories and for lamps, and which frames are one of several commands. Assumes nothing.
use Rattle.std.specs.Prelude.{Bool, false, ◌||◌, List, [], ◌∷◌}
use Rattle.bus.specs.declared.frame.Frame.{Frame}
use Rattle.bus.specs.Frames.{is_command}

-- one of the tests is true of the frame
abbrev pub is_one_of : List (Frame → Bool) → Frame → Bool
is_one_of [] f = false
is_one_of (is ∷ others) f = is f || is_one_of others f

-- the commands for the memory, with how many bytes each has
abbrev pub memory_commands : List (Frame → Bool)
memory_commands = is_command 0xFC 4 ∷ is_command 0xCA 7 ∷ is_command 0xFD 3 ∷ is_command 0xC9 3 ∷ []

-- those for lamps
abbrev pub lamp_commands : List (Frame → Bool)
lamp_commands = is_command 0xF4 4 ∷ is_command 0xF5 2 ∷ is_command 0xF6 2 ∷ is_command 0xF7 2 ∷ is_command 0xF8 2 ∷ is_command 0xF9 2 ∷ []
