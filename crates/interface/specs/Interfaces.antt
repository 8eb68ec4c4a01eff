-- How a button interface of some variant is designed. Assumes nothing.
use Rattle.std.specs.Prelude.{ℕ, cond, ◌&&◌, List, [], ◌∷◌, ◌++◌, Some, None, Option, ◌==◌, bit_and}
use Rattle.bus.specs.declared.frame.Frame.{Frame}
use Rattle.bus.specs.Frames.{byte, seconds_in, is_command, is_type_request, message}
use Rattle.station.specs.declared.edge.Edge.{Edge}
use Rattle.station.specs.Kinds.{Outcome}
use Rattle.station.specs.Rules.{stored}
use Rattle.module.specs.Designs.{Design}
use Rattle.module.specs.LampBytes.{lamps_after}
use Rattle.module.specs.Memories.{memory_sent}
use Rattle.module.specs.Pushes.{pressed_after, push_sent}
use Rattle.timing.specs.declared.locking.Locking.{Locking}
use Rattle.timing.specs.declared.locking.Locking.TheVariants.{Lock, Unlock}
use Rattle.timing.specs.Holds.{locked}
use Rattle.timing.specs.Times.{Time, set_to, a_second_later}
use Rattle.interface.specs.declared.variant.Variant.{Variant}
use Rattle.interface.specs.declared.setup.InterfaceSetup.{InterfaceSetup}
use Rattle.interface.specs.Channels.{hold_on, locked_bits, held_after, all_ticked}
use Rattle.interface.specs.Links.{named, by_records}
use Rattle.interface.specs.States.{State, encoded, decoded}

-- 0x12 asks to lock for a time, which is skipped where it is 0; 0x13 asks to free
abbrev pub commanded : Frame → Option Locking
commanded f =
    cond (is_command 0x12 5 f) (cond (seconds_in f == 0) None (Some (Lock (seconds_in f)))) (cond (is_command 0x13 2 f) (Some Unlock) None)

-- 0xD8 sets the clock, only if it comes with address 0
abbrev pub clock_after : Time → Frame → Time
clock_after t f = cond (f.address == 0 && is_command 0xD8 4 f) (set_to (byte f 1) (byte f 2) (byte f 3) t) t

-- 0xFA asks for the status, 0xED: pressed, enabled, not inverted, locked; no channel program is disabled, none selected
abbrev pub status_sent : ℕ → State → Frame → List Frame
status_sent own x f =
    cond (is_command 0xFA 2 f) (message 3 own (0xED ∷ x.pressed ∷ 0xFF ∷ 0xFF ∷ locked_bits 1 x.holds ∷ 0 ∷ 0 ∷ []) ∷ []) []

-- the setup as bytes
abbrev pub setup_bytes : InterfaceSetup → List ℕ
setup_bytes s = s.serial.high ∷ s.serial.low ∷ s.map ∷ s.year ∷ s.week ∷ []

-- RTR asks for the type, 0xFF
abbrev pub type_sent : Variant → InterfaceSetup → ℕ → Frame → List Frame
type_sent v s own f = cond (is_type_request f) (message 3 own (0xFF ∷ v.code ∷ setup_bytes s) ∷ []) []

-- 0xD7 asks for the time, 0xD8
abbrev pub clock_sent : ℕ → Time → Frame → List Frame
clock_sent own t f = cond (is_command 0xD7 1 f) (message 3 own (0xD8 ∷ t.day ∷ t.hour ∷ t.minute ∷ []) ∷ []) []

-- the state after a frame with the own address; each part obeys its own commands, and no frame is a command of two
abbrev pub after_command : Variant → State → Frame → State
after_command v x f =
    record {
      lamps = lamps_after x.lamps f;
      pressed = x.pressed;
      holds = held_after (commanded f) (bit_and (byte f 1) v.channels) x.holds;
      clock = clock_after x.clock f;
    }

-- what is sent on it
abbrev pub command_sent : Variant → InterfaceSetup → ℕ → List ℕ → State → Frame → List Frame
command_sent v s own cells x f = memory_sent own cells f ++ (status_sent own x f ++ (type_sent v s own f ++ clock_sent own x.clock f))

-- after a frame with address 0
abbrev pub after_broadcast : State → Frame → State
after_broadcast x f = record { lamps = x.lamps; pressed = x.pressed; holds = x.holds; clock = clock_after x.clock f }

-- after a button status from a linked address
abbrev pub after_status : Variant → List ℕ → State → Frame → State
after_status v cells x f =
    record { lamps = x.lamps; pressed = x.pressed; holds = by_records v.channels cells f x.holds; clock = x.clock }

-- after a second
abbrev pub after_second : State → State
after_second x =
    record { lamps = x.lamps; pressed = x.pressed; holds = all_ticked x.holds; clock = a_second_later x.clock }

-- after an edge at a channel: a locked one ignores it
abbrev pub after_push : Variant → State → ℕ → Edge → State
after_push v x channel edge =
    record {
      lamps = x.lamps;
      pressed = cond (locked (hold_on x.holds channel)) x.pressed (pressed_after v.buttons x.pressed channel edge);
      holds = x.holds;
      clock = x.clock;
    }

-- what is sent on it
abbrev pub pushed_sent : Variant → ℕ → State → ℕ → Edge → List Frame
pushed_sent v own x channel edge =
    cond (locked (hold_on x.holds channel)) [] (push_sent own v.buttons x.pressed channel edge)

-- an outcome from the cells, the state and the frames
abbrev pub outcome_of : List ℕ → State → List Frame → Outcome
outcome_of cells x fs = record { after = record { cells = cells; state = encoded x }; sent = fs }

-- 1,024 cells; statuses and seconds send nothing
abbrev pub design : Variant → InterfaceSetup → Design
design v s =
    record {
      memory = 1024;
      buttons = v.buttons;
      setup = setup_bytes s;
      names = λ own r a. named r.cells a;
      command = λ own r f.
          let x = decoded r.state in
          outcome_of (stored r.cells f) (after_command v x f) (command_sent v s own r.cells x f);
      broadcast = λ own r f.
          let x = decoded r.state in
          outcome_of r.cells (after_broadcast x f) (clock_sent own x.clock f);
      status = λ own r f. outcome_of r.cells (after_status v r.cells (decoded r.state) f) [];
      second = λ own r. outcome_of r.cells (after_second (decoded r.state)) [];
      push = λ own r channel edge.
          let x = decoded r.state in
          outcome_of r.cells (after_push v x channel edge) (pushed_sent v own x channel edge);
    }
