-- A design that keeps the rules makes a lawful seat. Assumes nothing.
use Rattle.std.specs.Prelude.{◌≡◌, ℕ, ◌+◌, ◌≤◌, Bool, true, false, cond, ◌&&◌, ◌||◌, List, [], ◌∷◌, length, ◌==◌, nat_le, refl}
use Rattle.std.proofs.Common.{inl, inr, ap, ◌∙◌, arith}
use Rattle.std.specs.List.{AllByRecursion}
use Rattle.std.proofs.ByRecursion.{All-weaker}
use Rattle.std.proofs.lemmas.Bool.{or_parts, and_parts, cond_both, cond-false, true≢false}
use Rattle.bus.specs.declared.frame.Frame.{Frame}
use Rattle.station.specs.declared.event.Event.{Event}
use Rattle.station.specs.declared.event.Event.TheVariants.{Heard, Second, Pushed}
use Rattle.station.specs.Kinds.{Record, Outcome, is_status, linked, reaches}
use Rattle.station.specs.Rules.{cell, payload, put, stored, written, cells_after, Bears, Rules, later}
use Rattle.station.proofs.Puts.{length-put}
use Rattle.module.specs.Designs.{Design, idle, answered, designed, Proper, Orderly, OnlyOwn}

length-stored : (cells : List ℕ) (f : Frame) → length (stored cells f) ≡ length cells
length-stored cells f =
    cond_both (nat_le (cell f + length (payload f)) (length cells)) (put cells (cell f) (payload f)) cells (λ t. length t ≡ length cells)
    (λ _. length-put cells (cell f) (payload f)) (λ _. refl)

-- no event changes the size of a memory
length-after : (own : ℕ) (cells : List ℕ) (e : Event) → length (cells_after own cells e) ≡ length cells
length-after own cells (Heard f) =
    cond_both (f.address == own) (stored cells f) cells (λ t. length t ≡ length cells) (λ _. length-stored cells f) (λ _. refl)
length-after own cells Second = refl
length-after own cells (Pushed p) = refl

-- what the rules ask of an outcome, whatever the event
abbrev Keeps : Design → ℕ → Record → List ℕ → Outcome → Type 0
Keeps d own r cells o = (length o.sent ≤ 9) × AllByRecursion (Bears (designed d) own r) o.sent × (o.after.cells ≡ cells)

module _ (d : Design) (own : ℕ) (r : Record) where
  idle_keeps : Keeps d own r r.cells (idle r)
  idle_keeps = (omega arith, tt, refl)

  -- an answer that only bears the own address
  own_keeps : (cells : List ℕ) (o : Outcome) → Proper own OnlyOwn cells o → Keeps d own r cells o
  own_keeps cells o p = (p.nine, All-weaker _ (Bears (designed d) own r) (λ f h. elim h [ inl e ↦ inl e | inr n ↦ absurd n ]) o.sent p.bears, p.keeps)

  -- an answer that may also bear a linked address
  linked_keeps : (a : ℕ) (cells : List ℕ) (o : Outcome) → linked d.names own r a ≡ true → Proper own (λ b. b ≡ a) cells o → Keeps d own r cells o
  linked_keeps a cells o l p =
      (p.nine, All-weaker _ (Bears (designed d) own r) (λ f h. elim h [ inl e ↦ inl e | inr e ↦ inr (ap (linked d.names own r) e ∙ l) ]) o.sent p.bears, p.keeps)

  heard_keeps : Orderly d → (f : Frame) → Keeps d own r (written own r.cells f) (answered d own r (Heard f))
  heard_keeps t f =
      let cells = r.cells in
      let a = f.address in
      let linking : Bool = is_status f && linked d.names own r a in
      let at_link : Keeps d own r cells (cond linking (d.status own r f) (idle r)) =
      cond_both linking (d.status own r f) (idle r) (Keeps d own r cells)
      (λ e. linked_keeps a cells (d.status own r f) (and_parts (is_status f) (linked d.names own r a) e).1 (t.status own r f)) (λ _. idle_keeps) in
      let at_zero : Keeps d own r cells (cond (a == 0) (d.broadcast own r f) (cond linking (d.status own r f) (idle r))) =
      cond_both (a == 0) (d.broadcast own r f) (cond linking (d.status own r f) (idle r)) (Keeps d own r cells)
      (λ _. own_keeps cells (d.broadcast own r f) (t.broadcast own r f)) (λ _. at_link) in
      both (a == own) (stored cells f) cells (d.command own r f) _ (own_keeps (stored cells f) (d.command own r f) (t.command own r f)) at_zero
    where
      both : (b : Bool) (c c' : List ℕ) (o o' : Outcome) → Keeps d own r c o → Keeps d own r c' o' → Keeps d own r (cond b c c') (cond b o o')
      both true c c' o o' h k = h
      both false c c' o o' h k = k

  event_keeps : Orderly d → (e : Event) → Keeps d own r (cells_after own r.cells e) (answered d own r e)
  event_keeps t (Heard f) = heard_keeps t f
  event_keeps t Second = own_keeps r.cells (d.second own r) (t.second own r)
  event_keeps t (Pushed p) =
      let o = d.push own r p.channel p.edge in
      cond_both (p.address == own) o (idle r) (Keeps d own r r.cells) (λ _. own_keeps r.cells o (t.push own r p.channel p.edge)) (λ _. idle_keeps)

  -- what does not reach the seat leaves it idle
  unreached_idle : (e : Event) → reaches (designed d) own r e ≡ false → answered d own r e ≡ idle r
  unreached_idle (Heard f) h =
      let a = f.address in
      let one = or_parts (a == own) (a == 0 || (is_status f && linked d.names own r a)) h in
      let two = or_parts (a == 0) (is_status f && linked d.names own r a) one.1 in
      cond-false (a == own) _ _ one.0 ∙ (cond-false (a == 0) _ _ two.0 ∙ cond-false (is_status f && linked d.names own r a) _ _ two.1)
  unreached_idle Second h = absurd (true≢false h)
  unreached_idle (Pushed p) h = cond-false (p.address == own) _ _ h

  rules : Orderly d → length r.cells ≡ d.memory → Rules (designed d) own r
  rules t size =
      record {
        unreached = λ e h. (ap (λ o. o.after) (unreached_idle e h), ap (λ o. o.sent) (unreached_idle e h));
        nine = λ e. (event_keeps t e).0;
        bears = λ e. (event_keeps t e).1;
        writes = λ e. (event_keeps t e).2;
        sized = size;
        small = t.small;
      }

-- events keep the size of the memory, so the rules hold wherever they lead
pub orderly_lawful : (d : Design) (own : ℕ) (r : Record) → Orderly d → length r.cells ≡ d.memory → (es : List Event) → Rules (designed d) own (later (designed d) own r es)
orderly_lawful d own r t size [] = rules d own r t size
orderly_lawful d own r t size (e ∷ es) =
    orderly_lawful d own (answered d own r e).after t (ap length (event_keeps d own r t e).2 ∙ (length-after own r.cells e ∙ size)) es
