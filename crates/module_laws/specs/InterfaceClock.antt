-- How the clock of a button interface moves, and what sets it. Assumes nothing.
use Rattle.std.specs.Prelude.{◌≡◌, ℕ, ◌+◌, ◌<◌, ◌≤◌, ◌≢◌, ◌⊎◌, true, slice_index}
use Rattle.bus.specs.declared.frame.Frame.{Frame}
use Rattle.bus.specs.Frames.{is_command}
use Rattle.station.specs.declared.event.Event.TheVariants.{Heard, Second}
use Rattle.station.specs.Kinds.{Record, Kind}
use Rattle.module_laws.specs.InterfaceStates.{day, hour, minute, second}

-- the clock shows these four numbers
pub record Shows (r : Record) (d h m s : ℕ) : Type 0 where
  pub its_day : day r ≡ d
  pub its_hour : hour r ≡ h
  pub its_minute : minute r ≡ m
  pub its_second : second r ≡ s

-- D8 with four bytes at address 0 sets the clock to its day, hour and minute and to second 0 if they exist: day 0 to 6, hour
-- 0 to 23, minute 0 to 59; otherwise it leaves the clock
pub record ClockSet (k : Kind) : Type 0 where
  pub sets :
      (own : ℕ) (r : Record) (f : Frame) → f.address ≡ 0 → is_command 0xD8 4 f ≡ true →
      slice_index f.bytes 1 < 7 → slice_index f.bytes 2 < 24 → slice_index f.bytes 3 < 60 →
      Shows (k.acts own r (Heard f)).after (slice_index f.bytes 1) (slice_index f.bytes 2) (slice_index f.bytes 3) 0
  pub sets_none :
      (own : ℕ) (r : Record) (f : Frame) → f.address ≡ 0 → is_command 0xD8 4 f ≡ true →
      (7 ≤ slice_index f.bytes 1) ⊎ ((24 ≤ slice_index f.bytes 2) ⊎ (60 ≤ slice_index f.bytes 3)) →
      Shows (k.acts own r (Heard f)).after (day r) (hour r) (minute r) (second r)

-- after a second the clock shows these numbers
abbrev pub NextShows : Kind → Record → ℕ → ℕ → ℕ → ℕ → Type 0
NextShows k r d h m s = (own : ℕ) → Shows (k.acts own r Second).after d h m s

-- after second 59 comes second 0 of the next minute, after minute 59 the next hour, after hour 23 the next day, and after
-- day 6 day 0
pub record ClockMoves (k : Kind) : Type 0 where
  pub in_a_minute : (r : Record) → (second r ≢ 59) → NextShows k r (day r) (hour r) (minute r) (second r + 1)
  pub after_a_minute : (r : Record) → second r ≡ 59 → (minute r ≢ 59) → NextShows k r (day r) (hour r) (minute r + 1) 0
  pub after_an_hour : (r : Record) → second r ≡ 59 → minute r ≡ 59 → (hour r ≢ 23) → NextShows k r (day r) (hour r + 1) 0 0
  pub after_a_day : (r : Record) → second r ≡ 59 → minute r ≡ 59 → hour r ≡ 23 → (day r ≢ 6) → NextShows k r (day r + 1) 0 0 0
  pub after_a_week : (r : Record) → second r ≡ 59 → minute r ≡ 59 → hour r ≡ 23 → day r ≡ 6 → NextShows k r 0 0 0 0
