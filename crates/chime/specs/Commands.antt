-- What a chime is told by a frame with its own address. Assumes nothing.
use Rattle.std.specs.Prelude.{ℕ, ◌+◌, cond, List, [], ◌∷◌, length, nat_le}
use Rattle.bus.specs.declared.frame.Frame.{Frame}
use Rattle.bus.specs.Frames.{byte, is_command}
use Rattle.station.specs.Kinds.{Record}
use Rattle.station.specs.Rules.{cell, put}
use Rattle.chime.specs.declared.command.Command.{Command}
use Rattle.chime.specs.declared.command.Command.TheVariants.{Write, WriteBlock, Follow, Other}

-- 0xFC writes a byte and 0xCA four; 0xA0 says which address to follow, and by how many strokes
abbrev pub command_of : Frame → Command
command_of f =
    cond (is_command 0xFC 4 f) (Write (cell f) (byte f 3))
    (cond (is_command 0xCA 7 f) (WriteBlock (cell f) (byte f 3 ∷ byte f 4 ∷ byte f 5 ∷ byte f 6 ∷ []))
    (cond (is_command 0xA0 3 f) (Follow (byte f 1) (byte f 2)) Other))

-- cells with some bytes put in from a cell on, if every one has a cell
abbrev pub put_in : List ℕ → ℕ → List ℕ → List ℕ
put_in cells at bs = cond (nat_le (at + length bs) (length cells)) (put cells at bs) cells

-- the record after a command: more than nine strokes are refused
abbrev pub obeyed : Record → Command → Record
obeyed r (Write at b) = record { cells = put_in r.cells at (b ∷ []); state = r.state }
obeyed r (WriteBlock at bs) = record { cells = put_in r.cells at bs; state = r.state }
obeyed r (Follow address strokes) = record { cells = r.cells; state = cond (nat_le strokes 9) (address ∷ strokes ∷ []) r.state }
obeyed r Other = r
