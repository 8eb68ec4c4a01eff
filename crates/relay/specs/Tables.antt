-- The pairs of the relay's memory: whom they link, and which one a channel obeys. Assumes nothing.
use Rattle.std.specs.Prelude.{ℕ, ◌+◌, ◌*◌, ◌/◌, Bool, true, cond, not, ◌&&◌, ◌||◌, List, is_some, Some, None, Option, ◌==◌, slice_index}
use Rattle.module.specs.Bits.{has_bit}
use Rattle.module.specs.Searches.{first, rows_in_use}
use Rattle.relay.specs.declared.action.Action.{Action}
use Rattle.relay.specs.declared.action.Action.TheVariants.{Clear, Set, Toggle, ToggleTimer, Start}
use Rattle.relay.specs.declared.timers.Timers.{Timers}
use Rattle.relay.specs.declared.query.Query.{Query}

-- where pair p of channel c begins: a channel has eight tables of fifteen pairs, an address and button bits each
abbrev pub pair_cell : ℕ → ℕ → ℕ
pair_cell c p = 256 * c + 2 * p

-- the table that a pair stands in
abbrev pub table : ℕ → ℕ
table p = p / 15

-- the buttons asked for, if any are, have one in common with a pair's bits
abbrev pub in_common : Option ℕ → ℕ → Bool
in_common None bits = true
in_common (Some asked) bits = has_bit bits asked

-- pair p of channel c fits the query; those of table 3, the mode table, fit none
abbrev pub matches : List ℕ → ℕ → Query → ℕ → Bool
matches cells c s p =
    not (table p == 3) && (slice_index cells (pair_cell c p) == s.address && in_common s.buttons (slice_index cells (pair_cell c p + 1)))

-- the first of a channel's pairs that does
abbrev pub first_pair : List ℕ → ℕ → Query → Option ℕ
first_pair cells c s = first (matches cells c s) 0 120

-- some pair of a channel bears the address, whatever its buttons
abbrev pub named_in : List ℕ → ℕ → ℕ → Bool
named_in cells c a = is_some (first_pair cells c (record { address = a; buttons = None }))

-- some pair of the relay does
abbrev pub named : List ℕ → ℕ → Bool
named cells a = named_in cells 0 a || (named_in cells 1 a || (named_in cells 2 a || named_in cells 3 a))

-- which of a channel's pairs bear the address of a seat
abbrev pub pairs_in_use : List ℕ → ℕ → List ℕ
pairs_in_use cells c = rows_in_use cells (256 * c) 2 120

-- what a pair asks of its channel: by table clear, set, toggle, (mode), toggle timer 1, toggle timer 2, start timer 1,
-- start timer 2
abbrev pub action_of : Timers → ℕ → Action
action_of t p =
    cond (table p == 0) Clear
    (cond (table p == 1) Set
    (cond (table p == 2) Toggle
    (cond (table p == 4) (ToggleTimer t.first)
    (cond (table p == 5) (ToggleTimer t.second) (cond (table p == 6) (Start t.first) (Start t.second))))))
