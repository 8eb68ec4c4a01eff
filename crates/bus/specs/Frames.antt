-- What makes a frame well formed. Assumes nothing.
use Rattle.std.specs.Prelude.{ℕ, ◌+◌, ◌*◌, Bool, ◌&&◌, ◌||◌, List, ◌++◌, length, take, drop, replicate, ◌==◌, nat_lt, slice_index}
use Rattle.std.specs.List.{list_all}
use Rattle.bus.specs.declared.frame.Frame.{Frame}

-- the data byte at a place counted from 0; byte 0 is the command
abbrev pub byte : Frame → ℕ → ℕ
byte f n = slice_index f.bytes n

-- the time that a command carries, in seconds: data bytes 3 to 5, high byte first
abbrev pub seconds_in : Frame → ℕ
seconds_in f = byte f 2 * 65536 + byte f 3 * 256 + byte f 4

-- the command `code` in a frame of that many bytes, which is no request for a type
abbrev pub is_command : ℕ → ℕ → Frame → Bool
is_command code count f = byte f 0 == code && (f.rtr == 0 && f.count == count)

-- a request for the type of a module: RTR without data
abbrev pub is_type_request : Frame → Bool
is_type_request f = f.rtr == 1 && f.count == 0

-- each number is 0
abbrev pub zeros : List ℕ → Bool
zeros xs = list_all (λ x. x == 0) xs

-- priority 0 to 3, RTR 0 or 1, count 0 to 8, RTR 1 only with count 0
abbrev pub sound_header : Frame → Bool
sound_header f = nat_lt f.priority 4 && (nat_lt f.rtr 2 && (nat_lt f.count 9 && (f.rtr == 0 || f.count == 0)))

-- a frame that keeps the rules: a sound header, and zeros past the count
abbrev pub well_formed : Frame → Bool
well_formed f = sound_header f && zeros (drop f.count f.bytes)

-- the frame that twelve bytes of a log tell: priority, address, RTR, count and the data bytes
abbrev pub of_body : List ℕ → Frame
of_body b =
    record { priority = slice_index b 0; address = slice_index b 1; rtr = slice_index b 2; count = slice_index b 3; bytes = drop 4 b }

-- a frame that carries some bytes, zeros after them
abbrev pub message : ℕ → ℕ → List ℕ → Frame
message priority address bytes =
    record { priority = priority; address = address; rtr = 0; count = length bytes; bytes = take 8 (bytes ++ replicate 8 0) }
