-- What a memory read is answered with. Assumes nothing.
use Rattle.std.specs.Prelude.{◌≡◌, ℕ, ◌+◌, ◌<◌, ◌≤◌, true, [], ◌∷◌, length, take, drop}
use Rattle.bus.specs.declared.frame.Frame.{Frame}
use Rattle.bus.specs.Frames.{byte, is_command, message}
use Rattle.station.specs.declared.event.Event.TheVariants.{Heard}
use Rattle.station.specs.Kinds.{Record, Outcome, Kind}
use Rattle.station.specs.Rules.{cell}
use Rattle.laws.specs.Blocks.{block}

-- what comes of the read f of n cells: where the memory has them, exactly one frame with the code is sent, which tells
-- what they hold; where it has not, nothing is sent; the cells stay
pub record CellsRead (own code n : ℕ) (r : Record) (f : Frame) (o : Outcome) : Type 0 where
  pub answer : cell f + n ≤ length r.cells → o.sent ≡ message 3 own (code ∷ byte f 1 ∷ byte f 2 ∷ take n (drop (cell f) r.cells)) ∷ []
  pub no_answer : length r.cells < cell f + n → o.sent ≡ []
  pub stores_none : o.after.cells ≡ r.cells

-- that comes of each read by the command `ask` with three bytes at the own address of a module of the kind
abbrev pub AnswersReads : ℕ → ℕ → ℕ → Kind → Type 0
AnswersReads ask code n k =
    (own : ℕ) (r : Record) (f : Frame) → f.address ≡ own → is_command ask 3 f ≡ true → CellsRead own code n r f (k.acts own r (Heard f))

-- after a block write w that fits, a block read f of the same cells is answered with the bytes of w
abbrev pub ReadsBack : Kind → Type 0
ReadsBack k =
    (own : ℕ) (r : Record) (w f : Frame) → w.address ≡ own → is_command 0xCA 7 w ≡ true → cell w + 4 ≤ length r.cells →
    f.address ≡ own → is_command 0xC9 3 f ≡ true → cell f ≡ cell w →
    (k.acts own (k.acts own r (Heard w)).after (Heard f)).sent ≡ message 3 own (0xCC ∷ byte f 1 ∷ byte f 2 ∷ block w) ∷ []
