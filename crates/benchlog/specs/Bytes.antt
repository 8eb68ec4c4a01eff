-- The bytes in which a log and its answers are written. Assumes nothing.
use Rattle.std.specs.Prelude.{ℕ, ◌/◌, ◌%◌, List, [], ◌∷◌, ◌++◌}
use Rattle.std.specs.List.{flat_map}
use Rattle.bus.specs.declared.frame.Frame.{Frame}
use Rattle.bus.specs.Frames.{byte}
use Rattle.bus.specs.Refusals.{number}
use Rattle.house.specs.Answers.{Answer, refused, accepted, counts, cleared, byte as a_byte}
use Rattle.benchlog.specs.declared.fault.Fault.{Fault}

-- a frame as twelve bytes: priority, address, RTR, count and the eight data bytes
abbrev pub body_of : Frame → List ℕ
body_of f =
    f.priority ∷ f.address ∷ f.rtr ∷ f.count
    ∷ byte f 0 ∷ byte f 1 ∷ byte f 2 ∷ byte f 3 ∷ byte f 4 ∷ byte f 5 ∷ byte f 6 ∷ byte f 7 ∷ []

-- a frame as a put item
abbrev pub put_item : Frame → List ℕ
put_item f = 1 ∷ body_of f

-- a frame that was sent
abbrev pub sent_bytes : Frame → List ℕ
sent_bytes f = 0x81 ∷ body_of f

-- the answer to an item that was served: the frames sent, in order, and 0x80
abbrev pub served_bytes : List Frame → List ℕ
served_bytes fs = flat_map sent_bytes fs ++ 0x80 ∷ []

-- the answer to an item: 0x82 and the number, if it was refused
abbrev pub answer_bytes : Answer → List Frame → List ℕ
answer_bytes (refused n) fs = 0x82 ∷ n ∷ []
answer_bytes accepted fs = served_bytes fs
answer_bytes (counts s p) fs = served_bytes fs
answer_bytes (cleared n) fs = served_bytes fs
answer_bytes (a_byte b) fs = served_bytes fs

-- the end of the answers to a log with a fault: 0x84, the number, and the low four bytes of the place, the high one first
abbrev pub fault_bytes : Fault → List ℕ
fault_bytes x =
    0x84 ∷ number x.refusal ∷ x.place / 16777216 % 256 ∷ x.place / 65536 % 256 ∷ x.place / 256 % 256 ∷ x.place % 256 ∷ []
