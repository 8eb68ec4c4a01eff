-- Hexadecimal digits. Assumes nothing.
use Rattle.std.specs.Prelude.{ℕ, ◌+◌, ◌-◌, ◌&&◌, nat_le, nat_lt, Bool, if◌then◌else◌, Option, Some, None}

-- c is one of the characters from a to b
abbrev pub from_to : ℕ → ℕ → ℕ → Bool
from_to a b c = nat_le a c && nat_le c b

-- the value of a digit: `0` to `9` are 48 to 57, `A` to `F` are 65 to 70, `a` to `f` are 97 to 102
abbrev pub digit_value : ℕ → Option ℕ
digit_value c =
    if from_to 48 57 c then Some (c - 48)
    else if from_to 65 70 c then Some (c - 55)
    else if from_to 97 102 c then Some (c - 87)
    else None

-- the digit of a value, in upper case
abbrev pub upper_digit : ℕ → ℕ
upper_digit n = if nat_lt n 10 then 48 + n else 55 + n
