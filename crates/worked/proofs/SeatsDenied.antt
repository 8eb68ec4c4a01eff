-- No seat that breaks a rule is lawful. Assumes nothing.
use Rattle.std.proofs.Common.{◌≡◌, ℕ, zero, suc, ◌+◌, ◌<◌, ◌≤◌, Bool, true, false, cond, ◌&&◌, ◌||◌, List, [], ◌∷◌, ◌++◌, length, replicate, take, drop, Some, None, Option, ◌==◌, nat_le, slice_index, sym, refl, subst, ap, ◌∙◌, inl, inr, arith}
use Rattle.std.specs.List.{AllByRecursion, Contains}
use Rattle.std.proofs.lemmas.Bool.{or_parts, false≢true, true≢false}
use Rattle.std.proofs.lemmas.Bool.{cond_both}
use Rattle.bus.specs.declared.frame.Frame.{Frame}
use Rattle.bus.specs.Frames.{message}
use Rattle.station.specs.declared.event.Event.{Event}
use Rattle.station.specs.declared.event.Event.TheVariants.{Heard, Second, Pushed}
use Rattle.station.specs.declared.event.Push.{Push}
use Rattle.station.specs.declared.edge.Edge.TheVariants.{Press}
use Rattle.station.specs.Kinds.{Record, Kind, Seat, reaches}
use Rattle.station.specs.Rules.{cell, payload, put, stored, written, cells_after, Bears, Rules, Lawful, later}
use Rattle.station.proofs.Puts.{length-put}
use Rattle.worked.specs.Denied.{own_frame, other_frame, kept, odd, each_second, sound, later_loud, sized, SeatsDenied}

length-stored : (cells : List ℕ) (f : Frame) → length (stored cells f) ≡ length cells
length-stored cells f =
    cond_both (nat_le (cell f + length (payload f)) (length cells)) (put cells (cell f) (payload f)) cells (λ t. length t ≡ length cells)
    (λ _. length-put cells (cell f) (payload f)) (λ _. refl)

length-written : (own : ℕ) (cells : List ℕ) (f : Frame) → length (written own cells f) ≡ length cells
length-written own cells f =
    cond_both (f.address == own) (stored cells f) cells (λ t. length t ≡ length cells) (λ _. length-stored cells f) (λ _. refl)

-- what does nothing wrong keeps the rules
sound_unreached : (r : Record) (e : Event) → reaches sound.kind 1 r e ≡ false → ((sound.kind.acts 1 r e).after ≡ r) × ((sound.kind.acts 1 r e).sent ≡ [])
sound_unreached r (Heard f) h =
    let elsewhere : (f.address == 1) ≡ false = (or_parts (f.address == 1) _ h).0 in
    ((λ i. record { cells = cond (elsewhere i) (stored r.cells f) r.cells; state = r.state }), refl)
sound_unreached r Second h = absurd (true≢false h)
sound_unreached r (Pushed p) h = (refl, refl)

sound_nine : (r : Record) (e : Event) → length (sound.kind.acts 1 r e).sent ≤ 9
sound_nine r (Heard f) = omega arith
sound_nine r Second = omega arith
sound_nine r (Pushed p) = omega arith

sound_bears : (r : Record) (e : Event) → AllByRecursion (Bears sound.kind 1 r) (sound.kind.acts 1 r e).sent
sound_bears r (Heard f) = tt
sound_bears r Second = (inl refl, tt)
sound_bears r (Pushed p) = tt

sound_writes : (r : Record) (e : Event) → (sound.kind.acts 1 r e).after.cells ≡ cells_after 1 r.cells e
sound_writes r (Heard f) = refl
sound_writes r Second = refl
sound_writes r (Pushed p) = refl

sound_sized : (r : Record) (e : Event) → length r.cells ≡ 1 → length (sound.kind.acts 1 r e).after.cells ≡ 1
sound_sized r (Heard f) h = length-written 1 r.cells f ∙ h
sound_sized r Second h = h
sound_sized r (Pushed p) h = h

sound_rules : (r : Record) → length r.cells ≡ 1 → Rules sound.kind 1 r
sound_rules r h =
    record { unreached = sound_unreached r; nine = sound_nine r; bears = sound_bears r; writes = sound_writes r; sized = h; small = omega arith }

sound_lawful : (r : Record) → length r.cells ≡ 1 → (es : List Event) → Rules sound.kind 1 (later sound.kind 1 r es)
sound_lawful r h [] = sound_rules r h
sound_lawful r h (e ∷ es) = sound_lawful (sound.kind.acts 1 r e).after (sound_sized r e h) es

-- a push at the address 2
elsewhere_pushed : Event
elsewhere_pushed = Pushed (record { address = 2; channel = 1; edge = Press })

one_is_none : {A : Type 0} {x : A} → (x ∷ []) ≡ [] → ⊥
one_is_none e = omega (arith, ap length e)

pub seats_denied : SeatsDenied
seats_denied =
    record {
      allowed = sound_lawful sound.content refl;
      anywhere = λ h. one_is_none ((h []).unreached (Pushed (record { address = 2; channel = 1; edge = Press })) refl).1;
      ten = λ h. omega (arith, (h []).nine Second);
      foreign = λ h. elim ((h []).bears Second).0 [ inl e ↦ omega (arith, e) | inr e ↦ false≢true e ];
      losing = λ h. omega (arith, ap (λ t. slice_index t 0) ((h []).writes (Heard (message 3 1 (0xFC ∷ 0 ∷ 0 ∷ 7 ∷ [])))));
      erring_later = λ h. omega (arith, (h (Second ∷ [])).nine Second);
      lacking = λ h. omega (arith, (h []).sized);
      large = λ h. omega (arith, (h []).small);
      no_seat = λ h. omega (arith, h.0);
      beyond = λ h. omega (arith, h.0);
    }
