-- What a channel can be, and what actions and seconds make of it. Assumes nothing.
use Rattle.std.specs.Prelude.{ℕ, ◌+◌, ◌-◌, ◌*◌, ◌/◌, ◌%◌, min, max, Bool, true, false, cond, List, [], ◌∷◌, ◌==◌, nat_le, slice_index}
use Rattle.relay.specs.declared.action.Action.{Action}
use Rattle.relay.specs.declared.action.Action.TheVariants.{Clear, Set, Toggle, ToggleTimer, Start}

-- open, closed, or closed for that many seconds more
pub data Contact : Type 0 where
  opened : Contact
  closed : Contact
  running : ℕ → Contact

-- the contact is made
abbrev pub is_closed : Contact → Bool
is_closed opened = false
is_closed closed = true
is_closed (running n) = true

-- its time runs
abbrev pub is_running : Contact → Bool
is_running opened = false
is_running closed = false
is_running (running n) = true

-- a time that a timer can run: 1 to 0xFFFFFE seconds, or else the nearer end
abbrev pub in_range : ℕ → ℕ
in_range n = max 1 (min n 0xFFFFFE)

-- what an action makes of a channel
abbrev pub obeyed : Action → Contact → Contact
obeyed Clear c = opened
obeyed Set c = closed
obeyed Toggle opened = closed
obeyed Toggle closed = opened
obeyed Toggle (running n) = opened
obeyed (ToggleTimer t) opened = running (in_range t)
obeyed (ToggleTimer t) closed = opened
obeyed (ToggleTimer t) (running n) = opened
obeyed (Start t) c = running (in_range t)

-- what a second makes of a channel: the last one opens it
abbrev pub ticked : Contact → Contact
ticked opened = opened
ticked closed = closed
ticked (running n) = cond (nat_le n 1) opened (running (n - 1))

-- the state in a byte
abbrev pub code : Contact → ℕ
code opened = 0
code closed = 1
code (running n) = 3

-- the time left
abbrev pub time : Contact → ℕ
time opened = 0
time closed = 0
time (running n) = n

-- a channel in four bytes: the state, then the time, high byte first
abbrev pub contact_bytes : Contact → List ℕ
contact_bytes x = code x ∷ time x / 65536 ∷ time x / 256 % 256 ∷ time x % 256 ∷ []

-- the channel that the four bytes from a place on tell
abbrev pub contact_at : List ℕ → ℕ → Contact
contact_at state i =
    cond (slice_index state i == 0) opened
    (cond (slice_index state i == 1) closed (running (slice_index state (i + 1) * 65536 + slice_index state (i + 2) * 256 + slice_index state (i + 3))))
