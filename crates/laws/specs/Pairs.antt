-- Which pair a channel of a relay obeys. Assumes nothing.
use Rattle.std.specs.Prelude.{◌≡◌, ℕ, ◌<◌, true, false, ◌↔◌, List, Some, None}
use Rattle.bus.specs.declared.frame.Frame.{Frame}
use Rattle.station.specs.declared.event.Event.TheVariants.{Heard}
use Rattle.station.specs.Kinds.{Record, from_link}
use Rattle.relay.specs.declared.relay.RelaySetup.{RelaySetup}
use Rattle.relay.specs.declared.query.Query.{Query}
use Rattle.relay.specs.Contacts.{obeyed}
use Rattle.relay.specs.Relays.{contacts, query}
use Rattle.relay.specs.Tables.{matches, first_pair, action_of}
use Rattle.laws.specs.Channels.{ChannelNumber, index, of_channel}
use Rattle.kinds.specs.Kinds.{relay_kind}

-- p is a pair of the channel that matches the query, and none before it does
pub record FirstMatch (cells : List ℕ) (c : ℕ) (s : Query) (p : ℕ) : Type 0 where
  pub in_table : p < 120
  pub matching : matches cells c s p ≡ true
  pub earlier : (q : ℕ) → q < p → matches cells c s q ≡ false

-- no pair of the channel matches the query
abbrev pub NoMatch : List ℕ → ℕ → Query → Type 0
NoMatch cells c s = (q : ℕ) → q < 120 → matches cells c s q ≡ false

-- a pair is found exactly if it matches and no earlier one does
abbrev pub FirstPairFound : Type 0
FirstPairFound = (cells : List ℕ) (c : ℕ) (s : Query) (p : ℕ) → (first_pair cells c s ≡ Some p) ↔ FirstMatch cells c s p

-- none is found exactly if none matches
abbrev pub NoPairFound : Type 0
NoPairFound = (cells : List ℕ) (c : ℕ) (s : Query) → (first_pair cells c s ≡ None) ↔ NoMatch cells c s

-- a button status from a linked address has a channel do what its first matching pair asks
abbrev pub FirstMatchObeyed : Type 0
FirstMatchObeyed =
    (s : RelaySetup) (own : ℕ) (r : Record) (f : Frame) → from_link (relay_kind s) own r f ≡ true →
    (c : ChannelNumber) (p : ℕ) → FirstMatch r.cells (index c) (query f) p →
    of_channel c (contacts ((relay_kind s).acts own r (Heard f)).after) ≡ obeyed (action_of (of_channel c s.timers) p) (of_channel c (contacts r))

-- and leaves a channel as it was that has no matching pair
abbrev pub NoMatchKept : Type 0
NoMatchKept =
    (s : RelaySetup) (own : ℕ) (r : Record) (f : Frame) → from_link (relay_kind s) own r f ≡ true →
    (c : ChannelNumber) → NoMatch r.cells (index c) (query f) →
    of_channel c (contacts ((relay_kind s).acts own r (Heard f)).after) ≡ of_channel c (contacts r)
