-- The law of isolation: a group of addresses with no link across its border does what it does, whatever else is seated.
-- Assumes nothing.
use Rattle.std.specs.Prelude.{◌≡◌, ℕ, Bool, true, false, ◌&&◌, ◌||◌, List, [], ◌∷◌, map, filter, ◌==◌}
use Rattle.std.specs.List.{AllByRecursion, flat_map}
use Rattle.bus.specs.declared.frame.Frame.{Frame}
use Rattle.station.specs.Kinds.{Seat}
use Rattle.station.specs.Rules.{Lawful}
use Rattle.groups.specs.Links.{Uncrossed}
use Rattle.house.specs.declared.call.Call.{Call}
use Rattle.house.specs.declared.call.Call.TheVariants.{Put, Push, Second, Step, Clear, Record}
use Rattle.house.specs.Answers.{cleared}
use Rattle.house.specs.Turns.{Bus, called, with_places}
use Rattle.runs.specs.Runs.{Entry, Run, quiet, is_served}

-- a fact holds of the seats at the start of a run and after every entry
abbrev pub Always : (List Seat → Type 0) → Bus → List Entry → Type 0
Always P x [] = P x.seats
Always P x (e ∷ es) = P x.seats × Always P (called e.call x) es

-- the seats of a group, in order
abbrev pub members : (ℕ → Bool) → List Seat → List Seat
members g ss = filter (λ s. g s.address) ss

-- the frames that bear an address of the group, in order
abbrev pub frames_of : (ℕ → Bool) → List Frame → List Frame
frames_of g fs = filter (λ f. g f.address) fs

-- a call that concerns the group: a put of a frame that bears 0 or an address of it, a push at an address of it, every
-- second, and nothing else
abbrev pub concerns : (ℕ → Bool) → Call → Bool
concerns g (Put f) = f.address == 0 || g f.address
concerns g (Push a c e n) = g a
concerns g (Second n) = true
concerns g (Step n) = false
concerns g Clear = false
concerns g (Record a n) = false

-- the served calls that concern the group, in order, but for the lengths of their buffers
abbrev pub concerning : (ℕ → Bool) → List Entry → List Call
concerning g es = map (λ e. with_places 0 e.call) (filter (λ e. is_served e.answer && concerns g e.call) es)

-- the frames that were sent, in order
abbrev pub all_sent : List Entry → List Frame
all_sent es = flat_map (λ e. e.sent) es

-- no frame was lost: each served clear answered 0
abbrev pub ClearsNothing : List Entry → Type 0
ClearsNothing es = AllByRecursion (λ e. (n : ℕ) → e.answer ≡ cleared n → n ≡ 0) es

-- a run from a new, quiet house that ends quiet, in which no link ever crosses the group's border and no clear removes a
-- frame
pub record Apart (g : ℕ → Bool) (start : List Seat) (es : List Entry) (end : List Seat) : Type 0 where
  pub run : Run (quiet start) es (quiet end)
  pub border : Always (Uncrossed g) (quiet start) es
  pub clears : ClearsNothing es

-- two runs, over two lists of seats that have the seats of a group in common, in which the same calls that concern it were
-- served. Of the other seats of either list nothing is asked but that they keep the rules
pub record Compared (g : ℕ → Bool) (start : List Seat) (es : List Entry) (end : List Seat) (other : List Seat) (fs : List Entry) (last : List Seat) : Type 0 where
  pub lawful : AllByRecursion Lawful other
  pub alike : members g start ≡ members g other
  pub here : Apart g start es end
  pub there : Apart g other fs last
  pub calls : concerning g es ≡ concerning g fs

-- then the group's seats are the same in the end, and so are the frames sent with its addresses, whatever else there is
abbrev pub IsolationLaw : List Seat → Type 0
IsolationLaw start =
    (g : ℕ → Bool) (es : List Entry) (end other : List Seat) (fs : List Entry) (last : List Seat) → Compared g start es end other fs last →
    (members g end ≡ members g last) × (frames_of g (all_sent es) ≡ frames_of g (all_sent fs))
