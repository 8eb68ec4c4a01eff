-- What an entry holds. Assumes nothing.
use Rattle.std.proofs.Common.{◌≡◌, ℕ, suc, ◌+◌, ◌<◌, arith, slice_index_or, List, [], ◌∷◌, ◌++◌, length, take, drop, map, subst, Some, None, Option, refl, sym, ap, ◌∙◌}
use Rattle.std.proofs.Math.Seq.{take-append_seam, take-suc}
use Rattle.bus.specs.declared.frame.Frame.{Frame}
use Rattle.bus.specs.declared.refusal.Refusal.{Refusal}
use Rattle.station.specs.Kinds.{Seat}
use Rattle.house.specs.declared.call.Call.{Call}
use Rattle.house.specs.declared.call.Call.TheVariants.{Put, Push, Second, Step, Clear, Record}
use Rattle.house.specs.Faults.{first_refusal}
use Rattle.house.specs.Turns.{Bus, called, checks, decided, turn, copied_in, with_places}
use Rattle.runs.specs.Runs.{Entry, Run, entry, quiet}
use Rattle.house.specs.Houses.{bus_of}
use Rattle.station.specs.declared.station.Station.{Ghosts}
use Rattle.runs.specs.declared.replayed.Replayed.{Replayed}
use Rattle.runs.specs.Making.{places_of, sent_number, Made}
use Rattle.runs.specs.Replays.{entries_of, Ran}
use Rattle.std.proofs.lemmas.List.{map-append}

served_counted : (ss : List Seat) (q : List Frame) (c : Call) → sent_number (decided None ss q c).answer ≡ length (decided None ss q c).sent
served_counted ss q (Put f) = refl
served_counted ss q (Push a c e n) = refl
served_counted ss q (Second n) = refl
served_counted ss [] (Step n) = refl
served_counted ss (f ∷ q) (Step n) = refl
served_counted ss q Clear = refl
served_counted ss q (Record a n) = refl

-- the number that an answer tells is that of the frames sent
pub sent_counted : (ss : List Seat) (q : List Frame) (c : Call) → sent_number (turn ss q c).answer ≡ length (turn ss q c).sent
sent_counted ss q c = by (first_refusal (checks ss q c))
  where
    by : (o : Option Refusal) → sent_number (decided o ss q c).answer ≡ length (decided o ss q c).sent
    by None = served_counted ss q c
    by (Some r) = refl

-- of a buffer to whose front they were written, so many frames are those sent
pub sent_kept : (ss : List Seat) (q : List Frame) (c : Call) (old : List Frame) → take (sent_number (turn ss q c).answer) (copied_in (turn ss q c).sent old) ≡ (turn ss q c).sent
sent_kept ss q c old =
    let fs = (turn ss q c).sent in
    ap (λ n. take n (copied_in fs old)) (sent_counted ss q c) ∙ take-append_seam fs (drop (length fs) old)

-- a call says how many places its buffer has
pub own_places : (c : Call) (n : ℕ) → n ≡ places_of c → with_places n c ≡ c
own_places (Put f) n e = refl
own_places (Push a c d m) n e = ap (Push a c d) e
own_places (Second m) n e = ap Second e
own_places (Step m) n e = ap Step e
own_places Clear n e = refl
own_places (Record a m) n e = refl

-- a run with one call more
pub run_more : (x : Bus) (es : List Entry) (y : Bus) (c : Call) → Run x es y → Run x (es ++ entry y c ∷ []) (called c y)
run_more x [] y c h = (ap (λ z. entry z c) h, ap (called c) h)
run_more x (e ∷ es) y c h = (h.0, run_more (called e.call x) es y c h.1)

module _ {S : Type 0} {G : Ghosts S} (seats_of : S → List Seat) (station : S) where
  -- what a replay did with the first calls, and with one more
  pub ran_more : (asked : List Call) (k : ℕ) (d : Call) (r after : Replayed S G) → k < length asked → Ran seats_of station (take k asked) r → Made seats_of (slice_index_or asked k d) r after → Ran seats_of station (take (k + 1) asked) after
  ran_more asked k d r after h ran made =
      let es = entries_of r in
      let x = bus_of seats_of r.house in
      let c = slice_index_or asked k d in
      let up : suc k ≡ k + 1 = omega arith in
      let longer : take k asked ++ c ∷ [] ≡ take (k + 1) asked = sym (take-suc asked k d h) ∙ ap (λ n. take n asked) up in
      record {
        run = subst (λ fs. Run (quiet (seats_of station)) fs (bus_of seats_of after.house)) (sym made.entries) (subst (Run (quiet (seats_of station)) (es ++ entry x c ∷ [])) (sym made.house) (run_more (quiet (seats_of station)) es x c ran.run));
        calls = ap (map (λ e. e.call)) made.entries ∙ map-append (λ e. e.call) es (entry x c ∷ []) ∙ ap (λ cs. cs ++ c ∷ []) ran.calls ∙ longer;
      }
