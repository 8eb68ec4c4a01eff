-- What the definitions deny that the two laws rest on: of each, something close to what it allows. Assumes nothing.
use Rattle.std.specs.Prelude.{◌≡◌, ℕ, ◌*◌, true, false, List, [], ◌∷◌, ◌++◌, replicate, slice_index}
use Rattle.bus.specs.declared.frame.Frame.{Frame}
use Rattle.bus.specs.Frames.{message}
use Rattle.station.specs.declared.event.Event.{Event}
use Rattle.station.specs.declared.event.Event.TheVariants.{Heard, Second, Pushed}
use Rattle.station.specs.Kinds.{Record, Outcome, Kind, Seat, kind_of}
use Rattle.station.specs.Rules.{put, cells_after, Lawful, Sound, Stands}
use Rattle.groups.specs.Links.{Uncrossed, InGroup, ListsGroup}
use Rattle.house.specs.declared.call.Call.TheVariants.{Put, Second as SecondCall, Step, Clear}
use Rattle.house.specs.Answers.{refused, accepted, counts, cleared}
use Rattle.house.specs.Turns.{Bus}
use Rattle.runs.specs.Runs.{Run, quiet}
use Rattle.runs.specs.Ledgers.{new_ledger, joined, memory_of}
use Rattle.runs.specs.Memory.{LastLeft, Keeps, Agrees, NumbersRight, Throughout}
use Rattle.runs.specs.Isolation.{ClearsNothing, Apart, Compared, members}
use Rattle.worked.specs.WorkedRun.{relay_at, panel_at, no_links, linked_cells, here, here_end, here_run, lossy_run, group, panel_only, link_write, long_write, ding, noted, press}

-- a frame of the module at 1, and one of the module at 2
abbrev pub own_frame : Frame
own_frame = message 3 1 (0x51 ∷ [])

abbrev pub other_frame : Frame
other_frame = message 3 2 (0x51 ∷ [])

-- the record after an event, if nothing but a write changes it
abbrev pub kept : Record → Event → Record
kept r e = record { cells = cells_after 1 r.cells e; state = r.state }

-- a module of one cell at the address 1 that does this on an event; it links nothing
abbrev pub odd : (Record → Event → Outcome) → Seat
odd acts = record { kind = kind_of 1 0 [] (λ own r a. false) (λ own r e. acts r e); address = 1; content = record { cells = 255 ∷ []; state = 0 ∷ [] } }

-- on a second it sends these
abbrev pub each_second : List Frame → Record → Event → Outcome
each_second fs r (Heard f) = record { after = kept r (Heard f); sent = [] }
each_second fs r Second = record { after = r; sent = fs }
each_second fs r (Pushed p) = record { after = r; sent = [] }

-- one that does nothing wrong
abbrev pub sound : Seat
sound = odd (each_second (own_frame ∷ []))

-- it sends nothing on the first second, and ten frames on the next
abbrev pub later_loud : Record → Event → Outcome
later_loud r (Heard f) = record { after = kept r (Heard f); sent = [] }
later_loud r Second = record { after = record { cells = r.cells; state = 1 ∷ [] }; sent = replicate (10 * slice_index r.state 0) own_frame }
later_loud r (Pushed p) = record { after = r; sent = [] }

-- a memory of that size, in which there are so many cells
abbrev pub sized : ℕ → ℕ → Seat
sized size n = record { kind = kind_of size 0 [] (λ own r a. false) (λ own r e. record { after = kept r e; sent = [] }); address = 1; content = record { cells = replicate n 255; state = [] } }

-- the sound seat is lawful. None is that does any of this: send at pushes elsewhere too; send ten frames; send with an
-- address that it does not link; lose what is written; err from the second second on; lack a cell; have 1,025. There is no
-- station without a seat, and no seat at 256
pub record SeatsDenied : Type 0 where
  pub allowed : Lawful sound
  pub anywhere : Lawful (odd (λ r e. record { after = kept r e; sent = own_frame ∷ [] })) → ⊥
  pub ten : Lawful (odd (each_second (replicate 10 own_frame))) → ⊥
  pub foreign : Lawful (odd (each_second (other_frame ∷ []))) → ⊥
  pub losing : Lawful (odd (λ r e. record { after = r; sent = [] })) → ⊥
  pub erring_later : Lawful (odd later_loud) → ⊥
  pub lacking : Lawful (sized 2 1) → ⊥
  pub large : Lawful (sized 1025 1025) → ⊥
  pub no_seat : Stands [] → ⊥
  pub beyond : Sound (record { kind = sound.kind; address = 256; content = sound.content }) → ⊥

-- after the first run, the relay at 0x10 links the panel at 0x20 and no other. So a set with the panel alone is crossed by
-- a link; the panel at 0x30 is in no group with the relay; and only the two addresses in order are a list of the group,
-- with the rest of the buffer as it was
pub record GroupsDenied : Type 0 where
  pub allowed : ListsGroup here_end 0x10 2 (7 ∷ 7 ∷ 7 ∷ []) (0x10 ∷ 0x20 ∷ 7 ∷ [])
  pub crossed : Uncrossed panel_only here_end → ⊥
  pub outsider : InGroup here_end 0x10 0x30 → ⊥
  pub one_missing : ListsGroup here_end 0x10 1 (7 ∷ 7 ∷ 7 ∷ []) (0x10 ∷ 7 ∷ 7 ∷ []) → ⊥
  pub one_more : ListsGroup here_end 0x10 3 (7 ∷ 7 ∷ 7 ∷ []) (0x10 ∷ 0x20 ∷ 0x30 ∷ []) → ⊥
  pub twice : ListsGroup here_end 0x10 3 (7 ∷ 7 ∷ 7 ∷ []) (0x10 ∷ 0x20 ∷ 0x20 ∷ []) → ⊥
  pub disordered : ListsGroup here_end 0x10 2 (7 ∷ 7 ∷ 7 ∷ []) (0x20 ∷ 0x10 ∷ 7 ∷ []) → ⊥
  pub overwritten : ListsGroup here_end 0x10 2 (7 ∷ 7 ∷ 7 ∷ []) (0x10 ∷ 0x20 ∷ 8 ∷ []) → ⊥

-- in the house at the start it is no run: to get to the end by no call; to clear a frame where none is pending; to be
-- refused a step by another number than 9; to be told of a frame that was not sent; to press a button and have no frame
-- pending
pub record RunsDenied : Type 0 where
  pub no_call : Run (quiet here) [] (quiet here_end) → ⊥
  pub other_answer : Run (quiet here) (noted Clear (cleared 1) [] ∷ []) (quiet here) → ⊥
  pub other_refusal : Run (quiet here) (noted (Step 144) (refused 8) [] ∷ []) (quiet here) → ⊥
  pub other_frames : Run (quiet here) (noted (SecondCall 144) (counts 0 0) (ding ∷ []) ∷ []) (quiet here) → ⊥
  pub other_end : Run (quiet here) (press 144 0x30 ∷ []) (quiet here) → ⊥

-- the law of memory leaves no choice: of one cell, no two bytes are what the last write left. Of the relay at the start it
-- denies: a new byte where no frame has passed; the old byte after a write; the byte of the first of two writes; the bytes
-- that have cells, of a write one of which has none; another kind, address or number of cells. And it denies numbers other
-- than those of the frames, a ledger with another queue or other cells, and a run with such a number
-- or, at its end, such a ledger
pub record MemoryDenied : Type 0 where
  pub decided : (own size n initial b c : ℕ) (fs : List Frame) → LastLeft own size n fs initial b → LastLeft own size n fs initial c → b ≡ c
  pub unwritten : Keeps [] (relay_at 0x10 no_links 0) (relay_at 0x10 (linked_cells 0x20) 0) → ⊥
  pub forgotten : Keeps (link_write 0x10 0x20 ∷ []) (relay_at 0x10 no_links 0) (relay_at 0x10 no_links 0) → ⊥
  pub older : Keeps (link_write 0x10 0x20 ∷ link_write 0x10 0x40 ∷ []) (relay_at 0x10 no_links 0) (relay_at 0x10 (linked_cells 0x20) 0) → ⊥
  pub half : Keeps (long_write 0x10 ∷ []) (relay_at 0x10 no_links 0) (relay_at 0x10 (put no_links 0x3FD (0x20 ∷ [])) 0) → ⊥
  pub moved : Keeps [] (relay_at 0x10 no_links 0) (relay_at 0x11 no_links 0) → ⊥
  pub turned : Keeps [] (panel_at 0x10 0 0) sound → ⊥
  pub shrunk : Keeps [] (relay_at 0x10 no_links 0) (relay_at 0x10 (replicate 1023 255) 0) → ⊥
  pub sent : NumbersRight (counts 2 0) (ding ∷ []) (new_ledger here) (new_ledger here) → ⊥
  pub waiting : NumbersRight (counts 1 1) (ding ∷ []) (new_ledger here) (new_ledger here) → ⊥
  pub removed : NumbersRight (cleared 1) [] (new_ledger here) (new_ledger here) → ⊥
  pub queue : Agrees here (joined (ding ∷ []) (new_ledger here)) (quiet here) → ⊥
  pub cells : Agrees here (new_ledger here_end) (quiet here) → ⊥
  pub throughout : Throughout here (new_ledger here) (quiet here) (noted Clear (cleared 1) [] ∷ []) → ⊥
  pub at_the_end : Throughout here (new_ledger here_end) (quiet here) [] → ⊥

-- the law of isolation compares no run in which a link crosses the border, or a clear loses a frame, or a frame is pending
-- at the end; and no two where the group's seats differ at the start, other calls that concern it were served, or a seat
-- breaks the rules
pub record IsolationDenied : Type 0 where
  pub seats : members group here ≡ relay_at 0x10 no_links 0 ∷ panel_at 0x20 4 2 ∷ []
  pub crossed : Apart panel_only here here_run here_end → ⊥
  pub lost : ClearsNothing lossy_run → ⊥
  pub pending : Apart group here (press 144 0x30 ∷ []) here → ⊥
  pub other_seats : Compared group here [] here (relay_at 0x10 no_links 0 ∷ panel_at 0x20 0 0 ∷ []) [] (relay_at 0x10 no_links 0 ∷ panel_at 0x20 0 0 ∷ []) → ⊥
  pub other_calls : Compared group here here_run here_end here [] here → ⊥
  pub unlawful : Compared group here [] here (odd (each_second (replicate 10 own_frame)) ∷ here) [] (odd (each_second (replicate 10 own_frame)) ∷ here) → ⊥
