-- The ledger: which frames have passed, told by the calls alone. Assumes nothing.
use Rattle.std.specs.Prelude.{ℕ, cond, List, [], ◌∷◌, ◌++◌, map}
use Rattle.bus.specs.declared.frame.Frame.{Frame}
use Rattle.station.specs.Kinds.{Seat}
use Rattle.station.specs.Rules.{written}
use Rattle.house.specs.declared.call.Call.{Call}
use Rattle.house.specs.declared.call.Call.TheVariants.{Put, Push, Second, Step, Clear, Record}
use Rattle.runs.specs.Runs.{Entry, is_served}

-- the cells of a seat's memory, and the seat's address
pub record Memory : Type 0 where
  pub address : ℕ
  pub cells : List ℕ

abbrev pub memory_of : Seat → Memory
memory_of s = record { address = s.address; cells = s.content.cells }

-- a ledger: the frames that are to pass and those that have passed, both oldest first, and every memory, in seat order
pub record Ledger : Type 0 where
  pub queue : List Frame
  pub passed : List Frame
  pub memories : List Memory

-- the ledger of a new house
abbrev pub new_ledger : List Seat → Ledger
new_ledger ss = record { queue = []; passed = []; memories = map memory_of ss }

-- a memory after a frame has passed: if the frame is a write to it, its bytes are in the cells
abbrev pub passed_by : Frame → Memory → Memory
passed_by f m = record { address = m.address; cells = written m.address m.cells f }

-- frames join the queue
abbrev pub joined : List Frame → Ledger → Ledger
joined fs l = record { queue = l.queue ++ fs; passed = l.passed; memories = l.memories }

-- the first frame of the queue passes
abbrev pub first_passes : List Frame → Ledger → Ledger
first_passes [] l = l
first_passes (f ∷ q) l = record { queue = q; passed = l.passed ++ f ∷ []; memories = map (passed_by f) l.memories }

-- a served call, and the frames that were sent
abbrev pub fed : Call → List Frame → Ledger → Ledger
fed (Put f) fs l = joined (f ∷ []) l
fed (Push a c e n) fs l = joined fs l
fed (Second n) fs l = joined fs l
fed (Step n) fs l = joined fs (first_passes l.queue l)
fed Clear fs l = record { queue = []; passed = l.passed; memories = l.memories }
fed (Record a n) fs l = l

-- the ledger is told of an entry: a call that was refused changes nothing
abbrev pub told : Entry → Ledger → Ledger
told e l = cond (is_served e.answer) (fed e.call e.sent l) l
