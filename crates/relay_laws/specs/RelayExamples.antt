-- For each condition of the laws of a relay, what meets it and what does not. Assumes nothing.
use Rattle.std.specs.Prelude.{◌≡◌, ℕ, true, [], ◌∷◌, ◌++◌, replicate, None, Some}
use Rattle.bus.specs.declared.frame.Frame.{Frame}
use Rattle.bus.specs.Frames.{message}
use Rattle.station.specs.declared.edge.Edge.TheVariants.{Press}
use Rattle.station.specs.declared.event.Event.TheVariants.{Heard, Second, Pushed}
use Rattle.station.specs.Kinds.{Record, from_link}
use Rattle.station.specs.Rules.{put}
use Rattle.relay.specs.declared.relay.RelaySetup.{RelaySetup}
use Rattle.relay.specs.Contacts.{opened, running}
use Rattle.relay.specs.Relays.{contacts}
use Rattle.laws.specs.Channels.{channel_1, channel_2, of_channel}
use Rattle.kinds.specs.Kinds.{relay_kind}
use Rattle.relay_laws.specs.RelayCommands.{Asks}
use Rattle.laws.specs.CountingCells.{AlikeRecords}
use Rattle.relay_laws.specs.RelayPairs.{FirstFits, NoneFits, Obeys}
use Rattle.relay_laws.specs.RelayLayout.{SomePairBears, Counts}
use Rattle.relay_laws.specs.RelayTimes.{NoneAsks}

-- a relay with one pair, the first of table 5 of channel 1, for button 1 at 0x20; channel 2 runs for nine seconds more, the
-- others are open
abbrev pub linked : Record
linked = record { cells = put (replicate 1024 255) 0x0096 (0x20 ∷ 1 ∷ []); state = replicate 4 0 ++ (3 ∷ 0 ∷ 0 ∷ 9 ∷ replicate 8 0) }

-- the same with another byte in the first cell of table 3 of channel 1
abbrev pub idly_changed : Record
idly_changed = record { cells = put linked.cells 0x005A (0x33 ∷ []); state = linked.state }

-- these buttons at an address are pressed, a bit for each
abbrev pub pressed : ℕ → ℕ → Frame
pressed address buttons = message 0 address (0x00 ∷ buttons ∷ 0 ∷ 0 ∷ [])

-- these channels of the relay at an address are to open, or to run for ten seconds
abbrev pub open_command : ℕ → ℕ → Frame
open_command address channels = message 3 address (0x01 ∷ channels ∷ [])

abbrev pub run_command : ℕ → ℕ → Frame
run_command address channels = message 3 address (0x03 ∷ channels ∷ 0 ∷ 0 ∷ 10 ∷ [])

-- button 1 is linked, its pair is the first of channel 1 that fits and the one that is obeyed; no pair of channel 2 fits,
-- and none fits button 2; the relay bears the address; and it is like the one with another byte in table 3
pub record PairsFit (s : RelaySetup) : Type 0 where
  pub link : from_link (relay_kind s) 0x10 linked (pressed 0x20 1) ≡ true
  pub fits : FirstFits linked.cells channel_1 (pressed 0x20 1) 5 0
  pub obeyed : Obeys linked.cells channel_1 (pressed 0x20 1) (Some (record { table = 5; number = 0 }))
  pub none : NoneFits linked.cells channel_2 (pressed 0x20 1)
  pub none_obeyed : Obeys linked.cells channel_2 (pressed 0x20 1) None
  pub other_button : FirstFits linked.cells channel_1 (pressed 0x20 2) 5 0 → ⊥
  pub other_pair : FirstFits linked.cells channel_1 (pressed 0x20 1) 5 1 → ⊥
  pub bears : SomePairBears linked.cells 0x20
  pub alike : AlikeRecords Counts linked idly_changed

-- the commands ask for channel 2, and not for channel 1
pub record CommandsAsk : Type 0 where
  pub opens : Asks 0x01 2 (open_command 0x10 2) channel_2
  pub runs : Asks 0x03 5 (run_command 0x10 2) channel_2
  pub high_bits : Asks 0x01 2 (open_command 0x10 0xF2) channel_2
  pub not_the_first : Asks 0x01 2 (open_command 0x10 0xF2) channel_1 → ⊥

-- seconds, pushes, a linked button whose pairs are those of another channel, a command to other channels or to another
-- relay ask nothing of channel 2, which runs; a command that names it does, and the linked button does of channel 1
pub record AsksOrNot (s : RelaySetup) : Type 0 where
  pub runs : of_channel channel_2 (contacts linked) ≡ running 9
  pub rests : of_channel channel_1 (contacts linked) ≡ opened
  pub nothing :
      NoneAsks (relay_kind s) 0x10 channel_2 linked
      (Second ∷ Pushed (record { address = 0x10; channel = 2; edge = Press }) ∷ Heard (pressed 0x20 1) ∷ Heard (open_command 0x10 0xFD) ∷ Heard (open_command 0x11 2) ∷ [])
  pub command : NoneAsks (relay_kind s) 0x10 channel_2 linked (Second ∷ Heard (run_command 0x10 2) ∷ []) → ⊥
  pub link : NoneAsks (relay_kind s) 0x10 channel_1 linked (Second ∷ Heard (pressed 0x20 3) ∷ []) → ⊥
