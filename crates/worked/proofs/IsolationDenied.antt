-- What the law of isolation does not compare. Assumes nothing.
use Rattle.std.proofs.Common.{◌≡◌, ℕ, true, false, List, [], ◌∷◌, length, replicate, slice_index, sym, refl, subst, ap, arith}
use Rattle.std.specs.List.{AllByRecursion}
use Rattle.std.proofs.ByRecursion.{All-append}
use Rattle.station.specs.declared.event.Event.TheVariants.{Second}
use Rattle.station.specs.Kinds.{Seat}
use Rattle.groups.specs.Links.{Uncrossed}
use Rattle.house.specs.Turns.{Bus, called}
use Rattle.runs.specs.Runs.{Entry, quiet}
use Rattle.runs.specs.Isolation.{Always, ClearsNothing}
use Rattle.worked.specs.WorkedRun.{here, here_end, here_run, lossy_run, group, panel_only, press}
use Rattle.worked.specs.Denied.{IsolationDenied, GroupsDenied}
use Rattle.worked.proofs.SeatsDenied.{seats_denied}
use Rattle.worked.proofs.GroupsDenied.{groups_denied}
use Rattle.worked.proofs.Runs.{Steps}
use Rattle.runs.specs.Runs.{Run}

-- what holds always holds at the end
at_end : (P : List Seat → Type 0) (es : List Entry) (x y : Bus) → Run x es y → Always P x es → P y.seats
at_end P [] x y r a = subst (λ w. P w.seats) (sym r) a
at_end P (e ∷ es) x y r a = at_end P es (called e.call x) y r.1 a.1

-- the entry in which a frame is lost is the 11th
lost_frame : ClearsNothing lossy_run → ⊥
lost_frame c = omega (arith, c.1.1.1.1.1.1.1.1.1.0 1 refl)

-- the third state byte of the second seat
abbrev lamps : List Seat → ℕ
lamps [] = 0
lamps (s ∷ []) = 0
lamps (s ∷ t ∷ ss) = slice_index t.content.state 0

pub isolation_denied : IsolationDenied
isolation_denied =
    record {
      seats = refl;
      crossed = λ a. groups_denied.crossed (at_end (Uncrossed panel_only) here_run (quiet here) (quiet here_end) a.run a.border);
      lost = lost_frame;
      pending = λ a. omega (arith, ap (λ x. length x.pending) a.run.1);
      other_seats = λ c. omega (arith, ap lamps c.alike);
      other_calls = λ c. omega (arith, ap length c.calls);
      unlawful = λ c. seats_denied.ten c.lawful.0;
    }
