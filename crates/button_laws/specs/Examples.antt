-- For each condition of the laws, what meets it and what does not. Assumes nothing.
use Rattle.std.specs.Prelude.{◌≡◌, ℕ, true, [], ◌∷◌, ◌++◌, replicate}
use Rattle.bus.specs.declared.frame.Frame.{Frame}
use Rattle.bus.specs.Frames.{message}
use Rattle.station.specs.declared.edge.Edge.TheVariants.{Press}
use Rattle.station.specs.declared.event.Event.TheVariants.{Heard, Second, Pushed}
use Rattle.station.specs.Kinds.{Record, from_link}
use Rattle.station.specs.Rules.{put}
use Rattle.timing.specs.Times.{Real}
use Rattle.interface.specs.declared.setup.InterfaceSetup.{InterfaceSetup}
use Rattle.interface.specs.declared.variant.Variant.{Variant}
use Rattle.button_laws.specs.Clocks.{NoneSets}
use Rattle.button_laws.specs.Holding.{NoneAsks, ActsAlone, ActsLast, Locks, Frees}
use Rattle.button_laws.specs.Interfaces.{interface_kind}

-- eight buttons and eight channels
abbrev pub eight : Variant
eight = record { code = 0x16; buttons = 8; channels = 255 }

-- the module at 0x10 with that hold on channel 1, and one link: record 0 acts on channel 1 when button 1 at 0x20 is
-- pressed, by that action and the code for ten seconds
abbrev pub linked : ℕ → ℕ → Record
linked action hold =
    record { cells = put (replicate 1024 255) 0x0100 (0x20 ∷ 1 ∷ action ∷ 10 ∷ 1 ∷ []); state = replicate 6 0 ++ hold ∷ replicate 25 0 }

-- these buttons at an address are pressed, a bit for each
abbrev pub pressed : ℕ → ℕ → Frame
pressed address buttons = message 0 address (0x00 ∷ buttons ∷ 0 ∷ 0 ∷ [])

-- these channels of the module at an address are to be locked for ten seconds, or freed
abbrev pub lock : ℕ → ℕ → Frame
lock address channels = message 3 address (0x12 ∷ channels ∷ 0 ∷ 0 ∷ 10 ∷ [])

abbrev pub unlock : ℕ → ℕ → Frame
unlock address channels = message 3 address (0x13 ∷ channels ∷ [])

-- a clock is to be set
abbrev pub set_clock : ℕ → ℕ → ℕ → ℕ → Frame
set_clock address day hour minute = message 3 address (0xD8 ∷ day ∷ hour ∷ minute ∷ [])

-- the button is linked. Its record locks channel 1 in the end if the action is 3, or 4 with the channel free; it frees
-- it if the action is 5, or 4 with the channel locked. It is no record of another channel, or of another button
pub record LinksAct (s : InterfaceSetup) : Type 0 where
  pub link : from_link (interface_kind eight s) 0x10 (linked 3 0) (pressed 0x20 1) ≡ true
  pub locks : Locks eight (linked 3 0) (pressed 0x20 1) 1 0
  pub locks_free : Locks eight (linked 4 0) (pressed 0x20 1) 1 0
  pub frees : Frees eight (linked 5 7) (pressed 0x20 1) 1 0
  pub frees_locked : Frees eight (linked 4 7) (pressed 0x20 1) 1 0
  pub other_channel : ActsLast eight (linked 3 0).cells (pressed 0x20 1) 2 0 → ⊥
  pub other_button : ActsAlone eight (linked 3 0).cells (pressed 0x20 2) 1 0 → ⊥
  pub other_record : ActsLast eight (linked 3 0).cells (pressed 0x20 1) 1 1 → ⊥

-- seconds and pushes ask nothing of channel 1, nor do locks of another channel or another module, a button that is not
-- linked, or another button of the linked module. A lock and an unlock of the channel ask something, and so does the
-- linked button; also after other events
pub record AsksOrNot (s : InterfaceSetup) : Type 0 where
  pub nothing :
      NoneAsks eight (interface_kind eight s) 0x10 (linked 3 0) 1
      (Second ∷ Pushed (record { address = 0x10; channel = 1; edge = Press }) ∷ Heard (lock 0x10 2) ∷ Heard (lock 0x11 1) ∷ Heard (pressed 0x33 1) ∷ Heard (pressed 0x20 2) ∷ [])
  pub lock : NoneAsks eight (interface_kind eight s) 0x10 (linked 3 0) 1 (Heard (lock 0x10 1) ∷ []) → ⊥
  pub unlock : NoneAsks eight (interface_kind eight s) 0x10 (linked 3 0) 1 (Second ∷ Heard (unlock 0x10 3) ∷ []) → ⊥
  pub link : NoneAsks eight (interface_kind eight s) 0x10 (linked 3 0) 1 (Second ∷ Second ∷ Heard (pressed 0x20 3) ∷ []) → ⊥

-- a clock is set by a time that exists, for all modules, and by nothing else
pub record SetsOrNot : Type 0 where
  pub set : NoneSets (Second ∷ Heard (set_clock 0 6 23 59) ∷ []) → ⊥
  pub not_set : NoneSets (Second ∷ Heard (set_clock 0 6 24 0) ∷ Heard (set_clock 0x10 6 23 59) ∷ Heard (lock 0 1) ∷ [])
  pub last : Real (record { day = 6; hour = 23; minute = 59; second = 59 })
  pub no_day : Real (record { day = 7; hour = 23; minute = 59; second = 59 }) → ⊥
  pub no_second : Real (record { day = 6; hour = 23; minute = 59; second = 60 }) → ⊥
