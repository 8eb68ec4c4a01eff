-- The time of the week that a clock shows. Assumes nothing.
use Rattle.std.specs.Prelude.{ℕ, ◌+◌, ◌<◌, Bool, true, cond, ◌&&◌, ◌==◌, nat_eq, nat_lt}

-- day 0 is Monday
pub record Time : Type 0 where
  pub day : ℕ
  pub hour : ℕ
  pub minute : ℕ
  pub second : ℕ

-- whether three numbers are a day of the week and a time of the day
abbrev pub real : ℕ → ℕ → ℕ → Bool
real day hour minute = nat_lt day 7 && (nat_lt hour 24 && nat_lt minute 60)

-- a time that exists
pub record Real (t : Time) : Type 0 where
  pub day : t.day < 7
  pub hour : t.hour < 24
  pub minute : t.minute < 60
  pub second : t.second < 60

-- the start of the week
abbrev pub midnight : Time
midnight = record { day = 0; hour = 0; minute = 0; second = 0 }

-- a clock that is set: to the full minute, if that time exists, and else not at all
abbrev pub set_to : ℕ → ℕ → ℕ → Time → Time
set_to day hour minute t = cond (real day hour minute) (record { day = day; hour = hour; minute = minute; second = 0 }) t

-- a part of the time that moves on, where it does: after its last value comes 0
abbrev pub next : Bool → ℕ → ℕ → ℕ
next moves last n = cond moves (cond (n == last) 0 (n + 1)) n

-- a second later
abbrev pub a_second_later : Time → Time
a_second_later t =
    let minute_ends = nat_eq t.second 59 in
    let hour_ends = minute_ends && nat_eq t.minute 59 in
    let day_ends = hour_ends && nat_eq t.hour 23 in
    record { day = next day_ends 6 t.day; hour = next hour_ends 23 t.hour; minute = next minute_ends 59 t.minute; second = next true 59 t.second }
