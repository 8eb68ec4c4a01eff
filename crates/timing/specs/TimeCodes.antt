-- How long a time code is. Assumes nothing.
use Rattle.std.specs.Prelude.{ℕ, suc, ◌+◌, ◌-◌, ◌*◌, Bool, true, cond, ◌&&◌, List, [], ◌∷◌, Some, None, Option, ◌==◌, nat_le, nat_lt}

-- codes from one on, until the next stretch: the seconds of the first, and by how many each next one is longer
pub record Stretch : Type 0 where
  pub from : ℕ
  pub start : ℕ
  pub rise : ℕ

-- the seven stretches, the last first: from 10 h, 5 h, 1 h, 30 min, 5 min, 2 min and 0 s on
abbrev pub stretches : List Stretch
stretches =
    record { from = 238; start = 36000; rise = 3600 }
    ∷ record { from = 228; start = 18000; rise = 1800 }
    ∷ record { from = 212; start = 3600; rise = 900 }
    ∷ record { from = 182; start = 1800; rise = 60 }
    ∷ record { from = 132; start = 300; rise = 30 }
    ∷ record { from = 120; start = 120; rise = 15 } ∷ record { from = 0; start = 0; rise = 1 } ∷ []

-- the seconds of a code by the first of the stretches that has begun there
abbrev pub by_stretch : List Stretch → ℕ → ℕ
by_stretch [] code = 0
by_stretch (s ∷ ss) code = cond (nat_le s.from code) (s.start + s.rise * (code - s.from)) (by_stretch ss code)

-- the test of a table: each entry is the seconds of its place, counted from i
abbrev pub by_rule : ℕ → List ℕ → Bool
by_rule i [] = true
by_rule i (x ∷ xs) = x == by_stretch stretches i && by_rule (suc i) xs

-- the seconds of a code; from 252 on a code has none
abbrev pub seconds_of_code : ℕ → Option ℕ
seconds_of_code code = cond (nat_lt code 252) (Some (by_stretch stretches code)) None

-- the hold that a code asks for: 0 one without end, any other its seconds
abbrev pub hold_of_code : ℕ → Option ℕ
hold_of_code code = cond (code == 0) (Some 0xFFFFFF) (seconds_of_code code)
