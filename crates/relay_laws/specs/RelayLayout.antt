-- Where the pairs of a relay stand in its memory, and which cells say nothing. Assumes nothing.
use Rattle.std.specs.Prelude.{◌≡◌, ℕ, ◌%◌, ◌<◌, ◌≤◌, ◌≢◌, min, max, true, ◌⊎◌, ◌↔◌, List, slice_index}
use Rattle.bus.specs.declared.frame.Frame.{Frame}
use Rattle.station.specs.declared.event.Event.TheVariants.{Heard}
use Rattle.station.specs.Kinds.{Record, Kind, from_link, links}
use Rattle.relay.specs.declared.relay.RelaySetup.{RelaySetup}
use Rattle.relay.specs.declared.timers.Timers.{Timers}
use Rattle.relay.specs.Contacts.{Contact, opened, closed, running}
use Rattle.relay.specs.Relays.{contacts}
use Rattle.laws.specs.Channels.{ChannelNumber, of_channel}
use Rattle.laws.specs.CountingCells.{OtherCellsIgnored}
use Rattle.kinds.specs.Kinds.{relay_kind}
use Rattle.relay_laws.specs.RelayPairs.{place, FirstFits, NoneFits}

-- a time brought into 1 to FFFFFE
abbrev pub within_range : ℕ → ℕ
within_range n = max 1 (min n 0xFFFFFE)

-- what becomes of an open channel, of a closed one and of a running one, by the timers of the channel
abbrev pub becomes : (Timers → Contact) → (Timers → Contact) → (Timers → Contact) → Timers → Contact → Contact
becomes from_open from_closed from_running timers opened = from_open timers
becomes from_open from_closed from_running timers closed = from_closed timers
becomes from_open from_closed from_running timers (running n) = from_running timers

-- that becomes of a channel on a button status from a linked address of which the first pair that fits stands in table t
abbrev pub Row : ℕ → (Timers → Contact) → (Timers → Contact) → (Timers → Contact) → Type 0
Row t from_open from_closed from_running =
    (s : RelaySetup) (own : ℕ) (r : Record) (f : Frame) (c : ChannelNumber) (i : ℕ) → from_link (relay_kind s) own r f ≡ true → FirstFits r.cells c f t i →
    of_channel c (contacts ((relay_kind s).acts own r (Heard f)).after) ≡ becomes from_open from_closed from_running (of_channel c s.timers) (of_channel c (contacts r))

-- to be open, to be closed, and to run for timer 1 and for timer 2, whatever the timers are
abbrev pub be_open : Timers → Contact
be_open timers = opened

abbrev pub be_closed : Timers → Contact
be_closed timers = closed

abbrev pub run_timer_1 : Timers → Contact
run_timer_1 timers = running (within_range timers.first)

abbrev pub run_timer_2 : Timers → Contact
run_timer_2 timers = running (within_range timers.second)

-- by table, what becomes of an open, a closed and a running channel; where no pair fits, the channel stays
pub record ActionsObeyed : Type 0 where
  pub clear : Row 0 be_open be_open be_open
  pub set : Row 1 be_closed be_closed be_closed
  pub toggle : Row 2 be_closed be_open be_open
  pub toggle_timer_1 : Row 4 run_timer_1 be_open be_open
  pub toggle_timer_2 : Row 5 run_timer_2 be_open be_open
  pub start_timer_1 : Row 6 run_timer_1 run_timer_1 run_timer_1
  pub start_timer_2 : Row 7 run_timer_2 run_timer_2 run_timer_2
  pub no_pair :
      (s : RelaySetup) (own : ℕ) (r : Record) (f : Frame) (c : ChannelNumber) → from_link (relay_kind s) own r f ≡ true → NoneFits r.cells c f →
      of_channel c (contacts ((relay_kind s).acts own r (Heard f)).after) ≡ of_channel c (contacts r)

-- some pair outside table 3 bears the address
pub record SomePairBears (cells : List ℕ) (a : ℕ) : Type 0 where
  pub channel : ChannelNumber
  pub table : ℕ
  pub number : ℕ
  pub in_tables : table < 8
  pub not_the_third : table ≢ 3
  pub in_table : number < 15
  pub bears : slice_index cells (place channel table number) ≡ a

-- exactly then a relay links an address, if it is 1 to 254 and not its own
abbrev pub PairsLink : Kind → Type 0
PairsLink k =
    (own : ℕ) (r : Record) (a : ℕ) → (links k own r a ≡ true) ↔ ((0 < a) × (a < 255) × (a ≢ own) × SomePairBears r.cells a)

-- a cell that says nothing: one of table 3, cells 90 to 119 of a quarter, or one of the last sixteen of a quarter
abbrev pub Idle : ℕ → Type 0
Idle a = ((90 ≤ a % 256) × (a % 256 < 120)) ⊎ (240 ≤ a % 256)

-- the others
abbrev pub Counts : ℕ → Type 0
Counts a = Idle a → ⊥

-- two relays whose memories differ in such cells alone link the same addresses and do and send the same after any events
abbrev pub IdleCellsIgnored : Kind → Type 0
IdleCellsIgnored k = OtherCellsIgnored Counts k
