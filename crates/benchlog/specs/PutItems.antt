-- What comes of writing a frame as a put item. Assumes nothing.
use Rattle.std.specs.Prelude.{◌≡◌, ℕ, zero, ◌+◌, not, List, [], ◌∷◌, ◌++◌, length, Some, None, Ok, Option, Result, MatchResult, nat_lt}
use Rattle.bus.specs.declared.frame.Frame.{Frame}
use Rattle.bus.specs.declared.refusal.Refusal.{Refusal}
use Rattle.bus.specs.declared.refusal.Refusal.TheVariants.{ShortBuffer, IllFormedFrame}
use Rattle.bus.specs.Frames.{well_formed}
use Rattle.house.specs.declared.call.Call.TheVariants.{Put as PutCall}
use Rattle.house.specs.Faults.{Checks, first_refusal}
use Rattle.house.specs.Turns.{copied_in, Rises}
use Rattle.benchlog.specs.Items.{LogItem, recorded}
use Rattle.benchlog.specs.Reading.{reading}
use Rattle.benchlog.specs.Bytes.{put_item}

-- what refuses to write the frame to a buffer of that length, in order
abbrev pub put_item_checks : Frame → ℕ → Checks
put_item_checks f n = (nat_lt n 13, ShortBuffer) ∷ (not (well_formed f), IllFormedFrame) ∷ []

-- the refusal, if there is one
abbrev pub put_item_refusal : Frame → ℕ → Option Refusal
put_item_refusal f n = first_refusal (put_item_checks f n)

-- the numbers are looked at from the smallest up
abbrev pub PutItemNumbersRise : Type 0
PutItemNumbersRise = (f : Frame) (n : ℕ) → Rises (put_item_checks f n)

-- the item is written to the buffer's front, unless something refuses it: then the buffer is as it was
abbrev pub WritesItem : Frame → Result (Unit {0}) Refusal → List ℕ → List ℕ → Type 0
WritesItem f r old new =
    MatchResult r (λ _. (put_item_refusal f (length old) ≡ None) × (new ≡ copied_in (put_item f) old)) (λ e. (put_item_refusal f (length old) ≡ Some e) × (new ≡ old))

-- wherever in a log these 13 bytes stand, they read as an item that records a put of this frame
abbrev pub ReadsBack : Frame → List ℕ → Type 0
ReadsBack f bytes =
    (n : ℕ) (rest : List ℕ) → (i : LogItem) × (reading zero n (bytes ++ rest) ≡ Ok i ∷ reading zero (n + 13) rest) × (recorded i ≡ PutCall f)
