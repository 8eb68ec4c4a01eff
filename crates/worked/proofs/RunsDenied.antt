-- What is no run. Assumes nothing.
use Rattle.std.proofs.Common.{◌≡◌, ℕ, Bool, false, true, List, [], ◌∷◌, length, slice_index, ap, refl, arith}
use Rattle.station.specs.Kinds.{Seat}
use Rattle.station.specs.Seats.{first_at}
use Rattle.bus.specs.declared.frame.Frame.{Frame}
use Rattle.house.specs.Answers.{Answer, refused, accepted, counts, cleared, byte}
use Rattle.house.specs.Turns.{Bus}
use Rattle.runs.specs.Runs.{Entry}
use Rattle.worked.specs.WorkedRun.{here}
use Rattle.worked.specs.Denied.{RunsDenied}

-- the number in an answer
abbrev number_in : Answer → ℕ
number_in (refused n) = n
number_in accepted = 0
number_in (counts s p) = s
number_in (cleared n) = n
number_in (byte b) = 0

-- what a seat remembers of its lamps
abbrev first_state : List Seat → ℕ
first_state [] = 0
first_state (s ∷ ss) = slice_index s.content.state 3

pub runs_denied : RunsDenied
runs_denied =
    record {
      no_call = λ h. omega (arith, ap (λ x. first_state x.seats) h);
      other_answer = λ h. omega (arith, ap (λ e. number_in e.answer) h.0);
      other_refusal = λ h. omega (arith, ap (λ e. number_in e.answer) h.0);
      other_frames = λ h. omega (arith, ap (λ e. length e.sent) h.0);
      other_end = λ h. omega (arith, ap (λ x. length x.pending) h.1);
    }
