-- How the relay is designed, and what a relay remembers. Assumes nothing.
use Rattle.std.specs.Prelude.{ℕ, ◌+◌, ◌*◌, Bool, cond, List, [], ◌∷◌, ◌++◌, Some, None, Option, ◌==◌, slice_index}
use Rattle.bus.specs.declared.frame.Frame.{Frame}
use Rattle.bus.specs.Frames.{byte, is_command, seconds_in}
use Rattle.station.specs.Kinds.{Record, Outcome}
use Rattle.station.specs.Rules.{stored}
use Rattle.module.specs.Bits.{has_bit}
use Rattle.module.specs.Cells.{memory_cells}
use Rattle.module.specs.Designs.{Design, idle}
use Rattle.module.specs.Memories.{memory_sent}
use Rattle.relay.specs.declared.action.Action.{Action}
use Rattle.relay.specs.declared.action.Action.TheVariants.{Clear, Set, Start}
use Rattle.relay.specs.declared.per_channel.PerChannel.{PerChannel}
use Rattle.relay.specs.declared.relay.Relay.{Relay}
use Rattle.relay.specs.declared.relay.RelaySetup.{RelaySetup}
use Rattle.relay.specs.declared.query.Query.{Query}
use Rattle.relay.specs.declared.timers.Timers.{Timers}
use Rattle.relay.specs.Channels.{each, paired, numbered}
use Rattle.relay.specs.Contacts.{Contact, obeyed, ticked, contact_bytes, contact_at}
use Rattle.relay.specs.Reports.{made, statuses, report, lamps}
use Rattle.relay.specs.Shown.{all_shown}
use Rattle.relay.specs.Tables.{pair_cell, first_pair, named, action_of}

-- the state bytes: four a channel
abbrev pub state_of : PerChannel Contact → List ℕ
state_of x = contact_bytes x.one ++ (contact_bytes x.two ++ (contact_bytes x.three ++ contact_bytes x.four))

-- the channels that a record tells
abbrev pub contacts : Record → PerChannel Contact
contacts r = numbered (λ c. contact_at r.state (4 * c))

-- which channels a command names, by the low four bits of its second byte
abbrev pub named_channels : Frame → PerChannel Bool
named_channels f =
    record { one = has_bit (byte f 1) 1; two = has_bit (byte f 1) 2; three = has_bit (byte f 1) 4; four = has_bit (byte f 1) 8 }

-- 0x03 and its time: none asks for nothing, 0xFFFFFF for a closed channel, any other for a running one
abbrev pub start_action : ℕ → Option Action
start_action t = cond (t == 0) None (cond (t == 0xFFFFFF) (Some Set) (Some (Start t)))

-- the action that a command asks for
abbrev pub commanded : Frame → Option Action
commanded f =
    cond (is_command 0x01 2 f) (Some Clear)
    (cond (is_command 0x02 2 f) (Some Set) (cond (is_command 0x03 5 f) (start_action (seconds_in f)) None))

-- an action, if there is one, carried out where it is named
abbrev pub carried : Option Action → Bool → Contact → Contact
carried None wanted x = x
carried (Some a) wanted x = cond wanted (obeyed a x) x

abbrev pub carried_out : Option Action → PerChannel Bool → PerChannel Contact → PerChannel Contact
carried_out a w x = paired (carried a) w x

-- 0xFA asks for the status of the channels that it names; else what changed is told
abbrev pub answer : ℕ → Frame → PerChannel Bool → PerChannel Contact → List Frame
answer own f was x = cond (is_command 0xFA 2 f) (statuses own (named_channels f) x) (report own was x)

-- a frame with the own address
abbrev pub command : ℕ → Record → Frame → Outcome
command own r f =
    let was = contacts r in
    let is = carried_out (commanded f) (named_channels f) was in
    record {
      after = record { cells = stored r.cells f; state = state_of is };
      sent = memory_sent own r.cells f ++ answer own f (made was) is;
    }

-- a button status is looked for by its address and the buttons just pressed
abbrev pub query : Frame → Query
query f = record { address = f.address; buttons = Some (byte f 1) }

-- the pair that each channel obeys
abbrev pub pairs : List ℕ → Frame → PerChannel (Option ℕ)
pairs cells f = numbered (λ c. first_pair cells c (query f))

abbrev pub by_pair : Timers → Option ℕ → Contact → Contact
by_pair t None x = x
by_pair t (Some p) x = obeyed (action_of t p) x

abbrev pub by_pairs : PerChannel Timers → PerChannel (Option ℕ) → PerChannel Contact → PerChannel Contact
by_pairs t p x = paired (λ act y. act y) (paired by_pair t p) x

-- the button bits of a pair
abbrev pub pair_bits : List ℕ → ℕ → Option ℕ → Option ℕ
pair_bits cells c None = None
pair_bits cells c (Some p) = Some (slice_index cells (pair_cell c p + 1))

abbrev pub all_bits : List ℕ → PerChannel (Option ℕ) → PerChannel (Option ℕ)
all_bits cells p = paired (pair_bits cells) (numbered (λ c. c)) p

-- a button status from a linked address
abbrev pub status : RelaySetup → ℕ → Record → Frame → Outcome
status s own r f =
    let was = contacts r in
    let found = pairs r.cells f in
    let is = by_pairs s.timers found was in
    record {
      after = record { cells = r.cells; state = state_of is };
      sent = report own (made was) is ++ lamps f.address (made was) (made is) (all_bits r.cells found);
    }

abbrev pub all_ticked : PerChannel Contact → PerChannel Contact
all_ticked x = each ticked x

-- a second
abbrev pub second : ℕ → Record → Outcome
second own r =
    let was = contacts r in
    record { after = record { cells = r.cells; state = state_of (all_ticked was) }; sent = report own (made was) (all_ticked was) }

-- the timers as numbers
abbrev pub times : PerChannel Timers → List ℕ
times t =
    t.one.first ∷ t.one.second ∷ t.two.first ∷ t.two.second ∷ t.three.first ∷ t.three.second ∷ t.four.first ∷ t.four.second ∷ []

-- 1,024 cells, no buttons; broadcasts do nothing
abbrev pub design : RelaySetup → Design
design s =
    record {
      memory = 1024;
      buttons = 0;
      setup = times s.timers;
      names = λ own r a. named r.cells a;
      command = command;
      broadcast = λ own r f. idle r;
      status = status s;
      second = second;
      push = λ own r channel edge. idle r;
    }

-- what a relay remembers
abbrev pub content : Relay → Record
content p = record { cells = memory_cells p.pairs.memory; state = state_of (all_shown p.channels) }
