-- What a group does of all that the seats do, when no link crosses its border. Assumes nothing.
use Rattle.std.proofs.Common.{◌≡◌, ℕ, Bool, true, false, cond, ◌||◌, List, [], ◌∷◌, ◌++◌, ◌==◌, sym, refl, ap, ◌∙◌, inl, inr, arith}
use Rattle.std.specs.List.{AllByRecursion}
use Rattle.std.proofs.ByRecursion.{All-weaker}
use Rattle.std.proofs.lemmas.Bool.{cases_Bool, cond-true, cond-false, both_ways, and_parts, and_from, and_right, or_parts, or_from, or_left, or_right, eq-eqb, eqb-true, ne_eqb, ltb-true, false_from_ne_true}
use Rattle.std.proofs.lemmas.List.Elements.{filter-append}
use Rattle.bus.specs.declared.frame.Frame.{Frame}
use Rattle.station.specs.declared.event.Event.{Event}
use Rattle.station.specs.declared.event.Event.TheVariants.{Heard, Second, Pushed}
use Rattle.station.specs.Kinds.{Seat, links, is_status, reaches, after, sent}
use Rattle.station.specs.Rules.{Bears, Rules, Lawful}
use Rattle.station.specs.Seats.{after_all, sent_all}
use Rattle.house.specs.Faults.{bad_address}
use Rattle.groups.specs.Links.{link, Uncrossed}
use Rattle.runs.specs.Isolation.{members, frames_of}

-- a seat not at address 0 that keeps the rules now and links no address across the border
pub record Kept (g : ℕ → Bool) (s : Seat) : Type 0 where
  pub address : s.address == 0 ≡ false
  pub rules : Rules s.kind s.address s.content
  pub border : (c : ℕ) → links s.kind s.address s.content c ≡ true → g s.address ≡ g c

-- every seat is such a seat, once the addresses were found good
pub all_kept : (g : ℕ → Bool) (ss : List Seat) → AllByRecursion Lawful ss → bad_address ss ≡ false → Uncrossed g ss → AllByRecursion (Kept g) ss
all_kept g [] l b u = tt
all_kept g (s ∷ ss) l b u =
    let parts = or_parts (s.address == 0 || s.address == 255) (bad_address ss) b in
    let here : Kept g s =
    record {
      address = (or_parts (s.address == 0) (s.address == 255) parts.0).0;
      rules = l.0 [];
      border = λ c h. u s.address c (or_left _ _ (and_from (s.address == s.address) (links s.kind s.address s.content c) (eq-eqb _ _ refl) h));
    } in
    (here, all_kept g ss l.1 parts.1 (λ b c h. u b c (or_right _ _ h)))

-- frames that all bear an address of a group, or all do not
one_side : (h : ℕ → Bool) (b : Bool) (fs : List Frame) → AllByRecursion (λ f. h f.address ≡ b) fs → frames_of h fs ≡ cond b fs []
one_side h true [] e = refl
one_side h false [] e = refl
one_side h true (f ∷ fs) e = cond-true (h f.address) _ _ e.0 ∙ ap (λ t. f ∷ t) (one_side h true fs e.1)
one_side h false (f ∷ fs) e = cond-false (h f.address) _ _ e.0 ∙ one_side h false fs e.1

-- h tells the group's addresses, 0 aside
module _ (g h : ℕ → Bool) (same : (a : ℕ) → a == 0 ≡ false → h a ≡ g a) where
  -- a frame is on the side of its sender
  side : (s : Seat) → Kept g s → (f : Frame) → Bears s.kind s.address s.content f → h f.address ≡ g s.address
  side s k f (inl own) = ap h own ∙ same s.address k.address
  side s k f (inr link) =
      let above = ltb-true 0 f.address (and_parts _ _ link).0 in
      same f.address (ne_eqb _ _ (λ e. omega arith)) ∙ sym (k.border f.address link)

  -- so the group's frames are what the group's seats send
  pub group_sends : (e : Event) (ss : List Seat) → AllByRecursion (Kept g) ss → frames_of h (sent_all e ss) ≡ sent_all e (members g ss)
  group_sends e [] k = refl
  group_sends e (s ∷ ss) k =
      let here = one_side h (g s.address) (sent e s) (All-weaker _ _ (side s k.0) _ (k.0.rules.bears e)) in
      rw (filter-append (λ f. h f.address) (sent e s) (sent_all e ss), here, group_sends e ss k.1)
      (elim (cases_Bool (g s.address)) [ inl m ↦ rw m refl | inr m ↦ rw m refl ])

-- the group's seats after an event
pub group_after : (g : ℕ → Bool) (e : Event) (ss : List Seat) → members g (after_all e ss) ≡ after_all e (members g ss)
group_after g e [] = refl
group_after g e (s ∷ ss) =
    let rest = group_after g e ss in
    elim (cases_Bool (g s.address)) [ inl m ↦ rw m (ap (λ t. after e s ∷ t) rest) | inr m ↦ rw m rest ]

-- 0 and the addresses of the group
abbrev pub near : (ℕ → Bool) → ℕ → Bool
near g a = a == 0 || g a

-- an event for others than the group
abbrev pub Foreign : (ℕ → Bool) → Event → Type 0
Foreign g (Heard f) = near g f.address ≡ false
Foreign g Second = ⊥
Foreign g (Pushed p) = g p.address ≡ false

-- it reaches no seat of the group
unreached : (g : ℕ → Bool) (e : Event) → Foreign g e → (s : Seat) → Kept g s → g s.address ≡ true → reaches s.kind s.address s.content e ≡ false
unreached g Second n s k m = absurd n
unreached g (Pushed p) n s k m = false_from_ne_true _ (λ e. both_ways (g p.address) n (ap g (eqb-true _ _ e) ∙ m))
unreached g (Heard f) n s k m =
    let out = or_parts (f.address == 0) (g f.address) n in
    or_from _ _ (false_from_ne_true _ (λ e. both_ways (g f.address) out.1 (ap g (eqb-true _ _ e) ∙ m)))
    (or_from _ _ out.0 (and_right (is_status f) _ (false_from_ne_true _ (λ l. both_ways (g f.address) out.1 (sym (k.border f.address l) ∙ m)))))

-- so they stay as they are, and send nothing
pub group_stays : (g : ℕ → Bool) (e : Event) → Foreign g e → (ss : List Seat) → AllByRecursion (Kept g) ss → (after_all e (members g ss) ≡ members g ss) × (sent_all e (members g ss) ≡ [])
group_stays g e n [] k = (refl, refl)
group_stays g e n (s ∷ ss) k =
    let rest = group_stays g e n ss k.1 in
    elim (cases_Bool (g s.address)) [
      | inl m ↦
          let here = k.0.rules.unreached e (unreached g e n s k.0 m) in
          rw m (λ i. record { kind = s.kind; address = s.address; content = here.0 i } ∷ rest.0 i, λ i. here.1 i ++ rest.1 i)
      | inr m ↦ rw m rest
    ]
