-- For each condition of the laws here, what meets it and what does not. Assumes nothing.
use Rattle.std.specs.Prelude.{◌≡◌, ◌+◌, ◌≤◌, ◌<◌, true, false, [], ◌∷◌, replicate}
use Rattle.bus.specs.Frames.{message}
use Rattle.station.specs.declared.edge.Edge.TheVariants.{Press}
use Rattle.station.specs.declared.event.Event.TheVariants.{Heard, Second, Pushed}
use Rattle.station.specs.Kinds.{from_link}
use Rattle.interface.specs.declared.setup.InterfaceSetup.{InterfaceSetup}
use Rattle.kinds.specs.Kinds.{buttons_kind}
use Rattle.button_laws.specs.Examples.{linked, pressed, lock, unlock, set_clock}
use Rattle.module_laws.specs.AllMemory.{named_cell}
use Rattle.module_laws.specs.AllUnlisted.{IsUnlisted, of_interface}
use Rattle.module_laws.specs.InterfaceRecords.{fits, SomeRecordBears}
use Rattle.module_laws.specs.InterfaceReplies.{AsksForNone}
use Rattle.module_laws.specs.InterfaceStates.{hold}
use Rattle.module_laws.specs.InterfaceTimes.{NoneAsksHold}
use Rattle.module_laws.specs.StateBytes.{InterfaceBytes}

-- of the interface at 0x10 whose record 0 acts on channel 1 when button 1 at 0x20 is pressed: that button is linked, the
-- record fits, and none does of another number, channel or button; the hold of channel 1 is read
pub record RecordsFit (s : InterfaceSetup) : Type 0 where
  pub link : from_link (buttons_kind s) 0x10 (linked 3 0) (pressed 0x20 1) ≡ true
  pub no_link : from_link (buttons_kind s) 0x10 (linked 3 0) (pressed 0x21 1) ≡ false
  pub fitting : fits (linked 3 0).cells (pressed 0x20 1) 1 0 ≡ true
  pub other_number : fits (linked 3 0).cells (pressed 0x20 1) 1 1 ≡ false
  pub other_channel : fits (linked 3 0).cells (pressed 0x20 1) 2 0 ≡ false
  pub other_button : fits (linked 3 0).cells (pressed 0x20 2) 1 0 ≡ false
  pub bears : SomeRecordBears (linked 3 0).cells 0x20
  pub first_hold : hold (linked 3 7) 1 ≡ 7
  pub other_hold : hold (linked 3 7) 2 ≡ 0

-- seconds and pushes ask nothing of channel 1, nor do locks of another channel or another module, a button that is not
-- linked, or another button of the linked module; a lock and an unlock of the channel ask something, and so does the linked
-- button
pub record AsksOrNot (s : InterfaceSetup) : Type 0 where
  pub nothing :
      NoneAsksHold (buttons_kind s) 0x10 (linked 3 7) 1
      (Second ∷ Pushed (record { address = 0x10; channel = 1; edge = Press }) ∷ Heard (lock 0x10 2) ∷ Heard (lock 0x11 1) ∷ Heard (pressed 0x33 1) ∷ Heard (pressed 0x20 2) ∷ [])
  pub locks : NoneAsksHold (buttons_kind s) 0x10 (linked 3 7) 1 (Heard (lock 0x10 1) ∷ []) → ⊥
  pub unlocks : NoneAsksHold (buttons_kind s) 0x10 (linked 3 7) 1 (Second ∷ Heard (unlock 0x10 3) ∷ []) → ⊥
  pub links : NoneAsksHold (buttons_kind s) 0x10 (linked 3 7) 1 (Second ∷ Second ∷ Heard (pressed 0x20 3) ∷ []) → ⊥

-- a time that is told for one module, a relay's command and a button that is not linked are no events on which an interface
-- acts; a time that is told to all is one, and so is the linked button
pub record ListedOrNot (s : InterfaceSetup) : Type 0 where
  pub told_to_one : IsUnlisted of_interface (buttons_kind s) 0x10 (linked 3 0) (Heard (set_clock 0x10 6 23 59))
  pub relays : IsUnlisted of_interface (buttons_kind s) 0x10 (linked 3 0) (Heard (message 3 0x10 (0x02 ∷ 1 ∷ [])))
  pub not_linked : IsUnlisted of_interface (buttons_kind s) 0x10 (linked 3 0) (Heard (pressed 0x21 1))
  pub told_to_all : IsUnlisted of_interface (buttons_kind s) 0x10 (linked 3 0) (Heard (set_clock 0 6 23 59)) → ⊥
  pub linked_button : IsUnlisted of_interface (buttons_kind s) 0x10 (linked 3 0) (Heard (pressed 0x20 1)) → ⊥
  pub asks_none : AsksForNone 0x10 (Heard (lock 0x10 1))
  pub asks : AsksForNone 0x10 (Heard (message 3 0x10 (0xD7 ∷ []))) → ⊥

-- four cells from 03FC on lie in a memory of 1,024, and four from 03FD on do not
pub record InRangeOrNot : Type 0 where
  pub inside : named_cell (message 3 0x10 (0xC9 ∷ 0x03 ∷ 0xFC ∷ [])) + 4 ≤ 1024
  pub outside : 1024 < named_cell (message 3 0x10 (0xC9 ∷ 0x03 ∷ 0xFD ∷ [])) + 4

-- 32 zeros are state bytes of an interface; 31 are not, and a day 7 is none
pub record StateBytesOrNot : Type 0 where
  pub new : InterfaceBytes (replicate 32 0)
  pub too_few : InterfaceBytes (replicate 31 0) → ⊥
  pub no_day : InterfaceBytes (replicate 32 7) → ⊥
