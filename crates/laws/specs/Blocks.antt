-- What comes of a block write. Assumes nothing.
use Rattle.std.specs.Prelude.{◌≡◌, ℕ, ◌+◌, ◌<◌, ◌≤◌, true, List, [], ◌∷◌, length}
use Rattle.bus.specs.declared.frame.Frame.{Frame}
use Rattle.bus.specs.Frames.{byte, is_command, message}
use Rattle.station.specs.declared.event.Event.TheVariants.{Heard}
use Rattle.station.specs.Kinds.{Record, Outcome, Kind}
use Rattle.station.specs.Rules.{cell, put}
use Rattle.relay.specs.Relays.{contacts}

-- the four bytes that a block write carries
abbrev pub block : Frame → List ℕ
block f = byte f 3 ∷ byte f 4 ∷ byte f 5 ∷ byte f 6 ∷ []

-- what comes of the block write f: where the memory has its four cells, they take its bytes, and exactly one 0xCC with
-- those bytes is sent; where it has not, its cells stay and nothing is sent
pub record BlockWritten (own : ℕ) (r : Record) (f : Frame) (o : Outcome) : Type 0 where
  pub answer : cell f + 4 ≤ length r.cells → o.sent ≡ message 3 own (0xCC ∷ byte f 1 ∷ byte f 2 ∷ block f) ∷ []
  pub stores : cell f + 4 ≤ length r.cells → o.after.cells ≡ put r.cells (cell f) (block f)
  pub no_answer : length r.cells < cell f + 4 → o.sent ≡ []
  pub stores_none : length r.cells < cell f + 4 → o.after.cells ≡ r.cells

-- that comes of each block write, 0xCA with seven bytes, at the own address of a module of the kind
abbrev pub TakesBlockWrites : Kind → Type 0
TakesBlockWrites k =
    (own : ℕ) (r : Record) (f : Frame) → f.address ≡ own → is_command 0xCA 7 f ≡ true → BlockWritten own r f (k.acts own r (Heard f))

-- and none changes a channel of a relay
abbrev pub BlockWritesKeepChannels : Kind → Type 0
BlockWritesKeepChannels k =
    (own : ℕ) (r : Record) (f : Frame) → f.address ≡ own → is_command 0xCA 7 f ≡ true → contacts (k.acts own r (Heard f)).after ≡ contacts r
