-- When frames and records are the same. Assumes nothing.
use Rattle.std.proofs.Common.{◌≡◌, ℕ, ◌<◌, ◌≤◌, Bool, true, false, ◌&&◌, List, Some, None, Option, refl, sym, ap, ◌∙◌, arith}
use Rattle.std.specs.Prelude.{◌==◌, nat_lt}
use Rattle.std.specs.Bool.{Decides}
use Rattle.std.specs.Str.{bytes_eq}
use Rattle.std.proofs.lemmas.Bool.{ltb-true, ltb-false}
use Rattle.std.proofs.lemmas.Bool.Decides.{nat_tests, Decides-and, Decides-eqb, Decides-like}
use Rattle.std.proofs.lemmas.Slice.Eq.{bytes_eq-Decides}
use Rattle.bus.specs.declared.frame.Frame.{Frame}
use Rattle.station.specs.Kinds.{Seat, bytes}
use Rattle.station.specs.Seats.{nth, first_at, first_byte, asked}
use Rattle.house.specs.Answers.{Answer, refused, accepted, counts, cleared, byte}
use Rattle.pairing.specs.Groups.{SameRecord}

-- frames are the same where all their parts are
pub same_frame : (f g : Frame) → Decides (f.priority == g.priority && (f.address == g.address && (f.rtr == g.rtr && (f.count == g.count && bytes_eq f.bytes g.bytes)))) (f ≡ g)
same_frame f g =
    let parts =
    Decides-and _ _ (Decides-eqb f.priority g.priority) (Decides-and _ _ (Decides-eqb f.address g.address) (Decides-and _ _ (Decides-eqb f.rtr g.rtr) (Decides-and _ _ (Decides-eqb f.count g.count) (bytes_eq-Decides f.bytes g.bytes)))) in
    Decides-like _ (λ p i. record { priority = p.0 i; address = p.1.0 i; rtr = p.1.1.0 i; count = p.1.1.1.0 i; bytes = p.1.1.1.1 i }) (λ e. (ap (λ h. h.priority) e, (ap (λ h. h.address) e, (ap (λ h. h.rtr) e, (ap (λ h. h.count) e, ap (λ h. h.bytes) e))))) parts

-- the byte in an answer
in_answer : Answer → Option ℕ
in_answer (refused n) = None
in_answer accepted = None
in_answer (counts s p) = None
in_answer (cleared n) = None
in_answer (byte b) = b

pub told_byte : (x y : Option ℕ) → byte x ≡ byte y → x ≡ y
unfolding in_answer
told_byte x y e = ap in_answer e

nth_past : (m n : ℕ) (xs : List ℕ) → nth m xs ≡ None → m ≤ n → nth n xs ≡ None
nth_past m n xs e h = grind (arith, nat_tests)

-- after the end of a record there are no more bytes
past_end : (a m n : ℕ) (ss : List Seat) → first_byte a m ss ≡ None → m ≤ n → first_byte a n ss ≡ None
past_end a m n ss = by (first_at a ss)
  where
    by : (o : Option Seat) → asked None (λ s. nth m (bytes s.content)) o ≡ None → m ≤ n → asked None (λ s. nth n (bytes s.content)) o ≡ None
    by None e h = refl
    by (Some s) e h = nth_past m n (bytes s.content) e h

-- the same bytes, and then both records end
pub ended_same : (a m : ℕ) (ss ts : List Seat) → ((n : ℕ) → n < m → first_byte a n ss ≡ first_byte a n ts) → first_byte a m ss ≡ None → first_byte a m ts ≡ None → SameRecord ss ts a
ended_same a m ss ts before e d n h = by (nat_lt n m) refl
  where
    by : (b : Bool) → nat_lt n m ≡ b → first_byte a n ss ≡ first_byte a n ts
    by true l = before n (ltb-true _ _ l)
    by false l = past_end a m n ss e (ltb-false _ _ l) ∙ sym (past_end a m n ts d (ltb-false _ _ l))
