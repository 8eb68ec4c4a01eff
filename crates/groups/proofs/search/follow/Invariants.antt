use Rattle.std.proofs.Common.{◌≡◌, ℕ, ◌<◌, ◌≤◌, ◌||◌, length}
use Rattle.groups.specs.Marks.{first_link, marked, touches}
use Rattle.groups.proofs.search.follow.Given as goal

-- the addresses so far are marked as they are to be, and those that follow as they were
abbrev pub invariant-loop-other : goal.invariant-loop-other
invariant-loop-other g l =
    record {
      size : length l.marks ≡ 256;
      done : (c : ℕ) → c < l.other → marked l.marks c ≡ (marked l.initial.marks c || touches (first_link (g.S.Station.seats l.station)) l.address c);
      left : (c : ℕ) → l.other ≤ c → marked l.marks c ≡ marked l.initial.marks c;
    }
