-- What the link records of a button interface make of its holds, and whom they link. Assumes nothing.
use Rattle.std.specs.Prelude.{◌≡◌, ℕ, suc, ◌+◌, ◌-◌, ◌*◌, ◌<◌, ◌≤◌, ◌≢◌, Bool, true, false, not, ◌&&◌, ◌↔◌, List, [], ◌==◌, bit_and, slice_index}
use Rattle.bus.specs.declared.frame.Frame.{Frame}
use Rattle.station.specs.declared.event.Event.TheVariants.{Heard}
use Rattle.station.specs.Kinds.{Record, Outcome, Kind, from_link, links}
use Rattle.module_laws.specs.InterfaceStates.{hold, names_channel}

-- record k, 0 to 50, has five cells from H'0100' + 5 x k on: address, button bits, action, code, channel bits
abbrev pub record_byte : List ℕ → ℕ → ℕ → ℕ
record_byte cells k i = slice_index cells (0x0100 + 5 * k + i)

-- it bears the sender's address, has a bit in common with the buttons just pressed, and names the channel
abbrev pub fits : List ℕ → Frame → ℕ → ℕ → Bool
fits cells f channel k =
    (record_byte cells k 0 == f.address && not (bit_and (record_byte cells k 1) (slice_index f.bytes 1) == 0)) && names_channel (record_byte cells k 4) channel

-- so many seconds are the time of a code, 1 to 251
pub record Lasts (code seconds : ℕ) : Type 0 where
  pub each_second : code < 120 → seconds ≡ code
  pub from_2_minutes : 120 ≤ code → code < 132 → seconds ≡ 120 + 15 * (code - 120)
  pub from_5_minutes : 132 ≤ code → code < 182 → seconds ≡ 300 + 30 * (code - 132)
  pub from_30_minutes : 182 ≤ code → code < 212 → seconds ≡ 1800 + 60 * (code - 182)
  pub from_1_hour : 212 ≤ code → code < 228 → seconds ≡ 3600 + 900 * (code - 212)
  pub from_5_hours : 228 ≤ code → code < 238 → seconds ≡ 18000 + 1800 * (code - 228)
  pub from_10_hours : 238 ≤ code → code < 252 → seconds ≡ 36000 + 3600 * (code - 238)

-- what a record with an action and a code makes of a hold: 3 locks, for good by code 0, else for the time of the code; 4
-- does so where the channel is free, and frees a locked one; 5 frees; codes from 252 on have no time, so 3 and 4 do nothing
-- with them, nor does any other action
pub record Makes (action code was is : ℕ) : Type 0 where
  pub locks : action ≡ 3 → 0 < code → code < 252 → Lasts code is
  pub locks_for_good : action ≡ 3 → code ≡ 0 → is ≡ 0xFFFFFF
  pub locks_none : action ≡ 3 → 252 ≤ code → is ≡ was
  pub locks_free : action ≡ 4 → was ≡ 0 → 0 < code → code < 252 → Lasts code is
  pub locks_free_for_good : action ≡ 4 → was ≡ 0 → code ≡ 0 → is ≡ 0xFFFFFF
  pub frees_locked : action ≡ 4 → 0 < was → code < 252 → is ≡ 0
  pub toggles_none : action ≡ 4 → 252 ≤ code → is ≡ was
  pub frees : action ≡ 5 → is ≡ 0
  pub others : (action ≢ 3) → (action ≢ 4) → (action ≢ 5) → is ≡ was

-- the hold on a channel before each of the 51 records, in order, and after the last: each finds what the one before it left,
-- and leaves it unless it fits
pub record InTurn (cells : List ℕ) (f : Frame) (channel first last : ℕ) : Type 0 where
  pub before : ℕ → ℕ
  pub starts : before 0 ≡ first
  pub fitting : (k : ℕ) → k < 51 → fits cells f channel k ≡ true → Makes (record_byte cells k 2) (record_byte cells k 3) (before k) (before (suc k))
  pub other : (k : ℕ) → k < 51 → fits cells f channel k ≡ false → before (suc k) ≡ before k
  pub ends : before 51 ≡ last

-- only one last hold follows from the first
abbrev pub OneLastHold : Type 0
OneLastHold =
    (cells : List ℕ) (f : Frame) (channel first last other : ℕ) → InTurn cells f channel first last → InTurn cells f channel first other → last ≡ other

-- what comes of a button status: the records act so on each channel, and nothing is sent
pub record StatusObeyed (r : Record) (f : Frame) (o : Outcome) : Type 0 where
  pub holds : (channel : ℕ) → 1 ≤ channel → channel ≤ 8 → InTurn r.cells f channel (hold r channel) (hold o.after channel)
  pub silent : o.sent ≡ []

-- each button status from a linked address is obeyed so
abbrev pub RecordsObeyed : Kind → Type 0
RecordsObeyed k = (own : ℕ) (r : Record) (f : Frame) → from_link k own r f ≡ true → StatusObeyed r f (k.acts own r (Heard f))

-- some record bears the address
pub record SomeRecordBears (cells : List ℕ) (a : ℕ) : Type 0 where
  pub number : ℕ
  pub within : number < 51
  pub bears : record_byte cells number 0 ≡ a

-- exactly then an interface links an address, if that is 1 to 254 and not its own
abbrev pub RecordsLink : Kind → Type 0
RecordsLink k =
    (own : ℕ) (r : Record) (a : ℕ) → (links k own r a ≡ true) ↔ ((0 < a) × (a < 255) × (a ≢ own) × SomeRecordBears r.cells a)
