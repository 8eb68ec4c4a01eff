-- The state of a button interface, and the state bytes that tell it. Assumes nothing.
use Rattle.std.specs.Prelude.{ℕ, ◌+◌, ◌*◌, ◌/◌, ◌%◌, List, [], ◌∷◌, ◌++◌, slice_index}
use Rattle.std.specs.List.{flat_map}
use Rattle.module.specs.declared.lamps.Lamps.{Lamps}
use Rattle.module.specs.Cells.{memory_cells}
use Rattle.timing.specs.Times.{Time}
use Rattle.interface.specs.declared.interface.Interface.{Interface}
use Rattle.interface.specs.Shown.{all_held}

-- lamps, pressed buttons, the hold on each channel, and the time
pub record State : Type 0 where
  pub lamps : Lamps
  pub pressed : ℕ
  pub holds : List ℕ
  pub clock : Time

-- a hold in three bytes, high byte first
abbrev pub hold_bytes : ℕ → List ℕ
hold_bytes h = h / 65536 ∷ h / 256 % 256 ∷ h % 256 ∷ []

-- the hold that three bytes from a place on tell
abbrev pub hold_at : List ℕ → ℕ → ℕ
hold_at state i = slice_index state i * 65536 + slice_index state (i + 1) * 256 + slice_index state (i + 2)

-- the state bytes
abbrev pub encoded : State → List ℕ
encoded x =
    x.lamps.on ∷ x.lamps.slow ∷ x.lamps.fast ∷ x.pressed
    ∷ (flat_map hold_bytes x.holds ++ (x.clock.day ∷ x.clock.hour ∷ x.clock.minute ∷ x.clock.second ∷ []))

-- the state that they tell
abbrev pub decoded : List ℕ → State
decoded s =
    record {
      lamps = record { on = slice_index s 0; slow = slice_index s 1; fast = slice_index s 2 };
      pressed = slice_index s 3;
      holds = hold_at s 4 ∷ hold_at s 7 ∷ hold_at s 10 ∷ hold_at s 13 ∷ hold_at s 16 ∷ hold_at s 19 ∷ hold_at s 22 ∷ hold_at s 25 ∷ [];
      clock = record { day = slice_index s 28; hour = slice_index s 29; minute = slice_index s 30; second = slice_index s 31 };
    }

-- the state of an interface
abbrev pub state_of : Interface → State
state_of i = record { lamps = i.lamps; pressed = i.buttons.pressed; holds = all_held i.holds; clock = i.clock }

-- the cells of its memory
abbrev pub cells_of : Interface → List ℕ
cells_of i = memory_cells i.records.memory
