-- What follows of sendings, one after the other. Assumes nothing.
use Rattle.std.proofs.Common.{◌≡◌, ℕ, ◌+◌, ◌≤◌, List, [], ◌++◌, length, sym, refl, ap, subst, ◌∙◌, arith, length-append}
use Rattle.std.proofs.lemmas.List.{append_assoc, append-nil}
use Rattle.bus.specs.declared.frame.Frame.{Frame}
use Rattle.bus.specs.declared.outbox.Outbox.{Outbox}
use Rattle.bus.specs.Outboxes.{Room, Sends, frames}

-- one sending after another
pub sends_both : {a b c : Outbox} {fs gs : List Frame} → Sends a b fs → Sends b c gs → Sends a c (fs ++ gs)
sends_both {a} {b} {c} {fs} {gs} p q =
    record {
      appended = q.appended ∙ (ap (λ t. t ++ gs) p.appended ∙ append_assoc (frames a) fs gs);
      same_room = q.same_room ∙ p.same_room;
    }

-- a sending of some frames is one of the same frames
pub sends_same : {a b : Outbox} {fs gs : List Frame} → Sends a b fs → fs ≡ gs → Sends a b gs
sends_same {a} {b} s e = subst (Sends a b) e s

-- no sending at all
pub sends_none : (o : Outbox) (fs : List Frame) → fs ≡ [] → Sends o o fs
sends_none o fs e = record { appended = sym (append-nil (frames o)) ∙ ap (λ t. frames o ++ t) (sym e); same_room = refl }

-- where there was room for m frames and n more, and m at most were sent, there is room for n
pub room_left : {a b : Outbox} {fs : List Frame} (m n : ℕ) → Sends a b fs → length fs ≤ m → Room a (m + n) → Room b n
room_left {a} {b} {fs} m n s few room =
    omega (arith, ap length s.appended, length-append (frames a) fs, s.same_room)
