-- What is known of the addresses of some seats. Assumes nothing.
use Rattle.std.specs.Prelude.{ℕ, ◌+◌, true, false, cond, ◌||◌, List, [], ◌∷◌, replicate, ◌==◌, nat_lt, slice_index_or, slice_set}
use Rattle.station.specs.declared.addresses.Addresses.{Addresses}
use Rattle.station.specs.Kinds.{Seat}

-- of no seat
abbrev pub no_addresses : Addresses
no_addresses = record { seated = replicate 256 false; count = 0; outside = false; twice = false }

-- with one seat more
abbrev pub added : ℕ → Addresses → Addresses
added a r =
    record {
      seated = slice_set r.seated a true;
      count = cond (nat_lt r.count 17) (r.count + 1) r.count;
      outside = r.outside || (a == 0 || a == 255);
      twice = r.twice || slice_index_or r.seated a false;
    }

-- with all seats of a list more
abbrev pub listed : List Seat → Addresses → Addresses
listed [] r = r
listed (s ∷ ss) r = listed ss (added s.address r)
