use Rattle.std.proofs.Common.{◌≡◌, ℕ, ◌<◌}
use Rattle.station.specs.Seats.{first_byte}
use Rattle.house.specs.Houses.{station_of}
use Rattle.pairing.proofs.compare.same_record.Given as goal

-- so far all bytes are the same
abbrev pub invariant-loop-place : goal.invariant-loop-place
invariant-loop-place g l = (n : ℕ) → n < l.place → first_byte l.address n (g.S.Station.seats (station_of l.here)) ≡ first_byte l.address n (g.T.Station.seats (station_of l.there))
