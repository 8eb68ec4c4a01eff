-- What an outbox holds, and what it is to send. Assumes nothing.
use Rattle.std.specs.Prelude.{◌≡◌, ℕ, ◌+◌, ◌≤◌, List, ◌++◌, length, vec_items, vec_capacity}
use Rattle.bus.specs.declared.frame.Frame.{Frame}
use Rattle.bus.specs.declared.outbox.Outbox.{Outbox}

-- the frames in it, oldest first
abbrev pub frames : Outbox → List Frame
frames o = vec_items o.sent

-- how many frames it takes in all
abbrev pub room : Outbox → ℕ
room o = vec_capacity o.sent

-- n frames more go in
abbrev pub Room : Outbox → ℕ → Type 0
Room o n = length (frames o) + n ≤ room o

-- between two moments just these frames were appended, and the room in all stayed
pub record Sends (before after : Outbox) (fs : List Frame) : Type 0 where
  pub appended : frames after ≡ frames before ++ fs
  pub same_room : room after ≡ room before
