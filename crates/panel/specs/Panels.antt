-- How the panel is designed, and what a panel remembers. Assumes nothing.
use Rattle.std.specs.Prelude.{false, cond, List, [], ◌∷◌, ◌++◌, ℕ, slice_index}
use Rattle.bus.specs.declared.frame.Frame.{Frame}
use Rattle.bus.specs.Frames.{is_command, is_type_request, message}
use Rattle.station.specs.declared.edge.Edge.{Edge}
use Rattle.station.specs.Kinds.{Record, Outcome}
use Rattle.station.specs.Rules.{stored}
use Rattle.module.specs.declared.lamps.Lamps.{Lamps}
use Rattle.module.specs.Cells.{memory_cells}
use Rattle.module.specs.Designs.{Design, idle}
use Rattle.module.specs.LampBytes.{lamps_after}
use Rattle.module.specs.Memories.{memory_sent}
use Rattle.module.specs.Pushes.{pressed_after, push_sent}
use Rattle.panel.specs.declared.panel.Panel.{Panel}
use Rattle.panel.specs.declared.panel.PanelSetup.{PanelSetup}

-- the state bytes: the lamps, then the pressed buttons
abbrev pub state_of : Lamps → ℕ → List ℕ
state_of l pressed = l.on ∷ l.slow ∷ l.fast ∷ pressed ∷ []

abbrev pub lamps : Record → Lamps
lamps r = record { on = slice_index r.state 0; slow = slice_index r.state 1; fast = slice_index r.state 2 }

abbrev pub pressed : Record → ℕ
pressed r = slice_index r.state 3

-- 0xFA asks for the status, 0xED
abbrev pub status_sent : ℕ → Lamps → ℕ → Frame → List Frame
status_sent own l pressed f = cond (is_command 0xFA 2 f) (message 3 own (0xED ∷ pressed ∷ l.on ∷ l.slow ∷ l.fast ∷ 0 ∷ []) ∷ []) []

-- RTR asks for the type, 0xFF with 0x0B
abbrev pub type_sent : ℕ → PanelSetup → Lamps → Frame → List Frame
type_sent own s l f =
    cond (is_type_request f) (message 3 own (0xFF ∷ 0x0B ∷ l.on ∷ l.slow ∷ l.fast ∷ s.year ∷ s.week ∷ 0 ∷ []) ∷ []) []

-- a frame with the own address; each part obeys its own commands, and no frame is a command of two
abbrev pub command : PanelSetup → ℕ → Record → Frame → Outcome
command s own r f =
    record {
      after = record { cells = stored r.cells f; state = state_of (lamps_after (lamps r) f) (pressed r) };
      sent = memory_sent own r.cells f ++ (status_sent own (lamps r) (pressed r) f ++ type_sent own s (lamps r) f);
    }

-- an edge at a channel
abbrev pub push : ℕ → Record → ℕ → Edge → Outcome
push own r channel edge =
    record {
      after = record { cells = r.cells; state = state_of (lamps r) (pressed_after 8 (pressed r) channel edge) };
      sent = push_sent own 8 (pressed r) channel edge;
    }

-- 256 cells, eight buttons, no links; broadcasts, statuses and seconds do nothing
abbrev pub design : PanelSetup → Design
design s =
    record {
      memory = 256;
      buttons = 8;
      setup = s.year ∷ s.week ∷ [];
      names = λ own r a. false;
      command = command s;
      broadcast = λ own r f. idle r;
      status = λ own r f. idle r;
      second = λ own r. idle r;
      push = push;
    }

-- what a panel remembers
abbrev pub content : Panel → Record
content p = record { cells = memory_cells p.memory; state = state_of p.lamps p.buttons.pressed }
