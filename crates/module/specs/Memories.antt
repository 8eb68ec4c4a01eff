-- What a memory command is answered with. Assumes nothing.
use Rattle.std.specs.Prelude.{ℕ, ◌+◌, Bool, cond, ◌||◌, List, [], ◌∷◌, length, nat_le, slice_index}
use Rattle.bus.specs.declared.frame.Frame.{Frame}
use Rattle.bus.specs.Frames.{byte, is_command, message}
use Rattle.station.specs.Rules.{cell, stored}

-- the frame is a command that writes cells
abbrev pub writes : Frame → Bool
writes f = is_command 0xFC 4 f || is_command 0xCA 7 f

-- one cell of a memory, by 0xFE with its number
abbrev pub cell_frame : ℕ → Frame → List ℕ → Frame
cell_frame own f cells = message 3 own (0xFE ∷ byte f 1 ∷ byte f 2 ∷ slice_index cells (cell f) ∷ [])

-- four cells of a memory, by 0xCC with the number of the first
abbrev pub block_frame : ℕ → Frame → List ℕ → Frame
block_frame own f cells =
    message 3 own (0xCC ∷ byte f 1 ∷ byte f 2 ∷ slice_index cells (cell f) ∷ slice_index cells (cell f + 1) ∷ slice_index cells (cell f + 2) ∷ slice_index cells (cell f + 3) ∷ [])

-- what is sent where so many cells from the frame's on lie in the memory
abbrev pub in_memory : ℕ → Frame → List ℕ → Frame → List Frame
in_memory n f cells reply = cond (nat_le (cell f + n) (length cells)) (reply ∷ []) []

-- 0xFD asks for a cell, 0xC9 for four; 0xCA is answered with four as it left them
abbrev pub memory_sent : ℕ → List ℕ → Frame → List Frame
memory_sent own cells f =
    cond (is_command 0xFD 3 f) (in_memory 1 f cells (cell_frame own f cells))
    (cond (is_command 0xC9 3 f || is_command 0xCA 7 f) (in_memory 4 f cells (block_frame own f (stored cells f))) [])
