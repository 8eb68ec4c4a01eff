-- The law of isolation holds. Assumes nothing.
use Rattle.std.proofs.Common.{◌≡◌, ℕ, Bool, false, cond, ◌&&◌, ◌||◌, List, [], ◌∷◌, ◌++◌, length, Some, None, Option, nat_lt, sym, refl, true≢false, ap, ◌∙◌, inl, inr, append-nil, arith}
use Rattle.std.specs.List.{AllByRecursion}
use Rattle.std.proofs.lemmas.Bool.{cases_Bool, ltb-false}
use Rattle.std.proofs.lemmas.List.{nil_from_length}
use Rattle.std.proofs.lemmas.List.Elements.{filter-append}
use Rattle.bus.specs.declared.frame.Frame.{Frame}
use Rattle.bus.specs.declared.refusal.Refusal.{Refusal}
use Rattle.station.specs.declared.event.Event.{Event}
use Rattle.station.specs.declared.event.Event.TheVariants.{Heard, Second as ASecond, Pushed}
use Rattle.station.specs.Kinds.{Seat}
use Rattle.station.specs.Rules.{Lawful}
use Rattle.station.specs.Seats.{sent_all}
use Rattle.house.specs.declared.call.Call.{Call}
use Rattle.house.specs.declared.call.Call.TheVariants.{Put, Push, Second, Step, Clear, Record}
use Rattle.house.specs.Answers.{cleared}
use Rattle.house.specs.Faults.{Checks, first_refusal, bad_address}
use Rattle.house.specs.Turns.{Turn, Bus, acted, served, decided, checks, turn, called, with_places}
use Rattle.runs.specs.Runs.{Entry, Run, entry, quiet, is_served}
use Rattle.groups.specs.Links.{Uncrossed}
use Rattle.runs.specs.Isolation.{Always, members, frames_of, concerns, concerning, all_sent, ClearsNothing, IsolationLaw}
use Rattle.runs.proofs.Grouped.{all_kept, group_sends, group_after, near, Foreign, group_stays}
use Rattle.runs.proofs.Alone.{Move, made, RunsAlone, at_end, same_end, Follows, moved_first}
use Rattle.runs.proofs.Remembered.{lawful_after}

-- a turn of the house, as the group sees it
abbrev seen : (ℕ → Bool) → Turn → List Call → Move
seen g t cs = record { seats = members g t.seats; pending = frames_of (near g) t.pending; sent = frames_of g t.sent; calls = cs }

-- the calls that concern the group: this one first, if it does and was served
abbrev noted : (ℕ → Bool) → Call → Turn → List Call → List Call
noted g c t cs = cond (is_served t.answer && concerns g c) (with_places 0 c ∷ cs) cs

-- where no check is the first that applies, none does
none_applies : (cs : Checks) → first_refusal cs ≡ None → AllByRecursion (λ c. c.0 ≡ false) cs
none_applies [] e = tt
none_applies (c ∷ cs) e =
    elim (cases_Bool c.0) [
      | inl m ↦ let found = rw m at e in absurd cc
      | inr m ↦ (m, none_applies cs (rw m at e))
    ]

-- no frame is pending where a quiet house was asked for
quiet_now : (q : List Frame) → nat_lt 0 (length q) ≡ false → q ≡ []
quiet_now q e = let less = ltb-false 0 (length q) e in nil_from_length q (omega arith)

module _ (g : ℕ → Bool) (ss : List Seat) (lawful : AllByRecursion Lawful ss) (border : Uncrossed g ss) (cs : List Call) where
  abbrev group : List Seat
  group = members g ss

  abbrev queue : List Frame → List Frame
  queue q = frames_of (near g) q

  -- what the seats make of an event, the group's seats alone make of it
  event_seen : bad_address ss ≡ false → (e : Event) (q : List Frame) → seen g (acted e ss q) cs ≡ made (acted e group (queue q)) cs
  event_seen none e q =
      let kept = all_kept g ss lawful none border in
      let pending = filter-append (λ f. near g f.address) q (sent_all e ss) ∙ ap (λ t. queue q ++ t) (group_sends g (near g) (λ a z. ap (λ b. b || g a) z) e ss kept) in
      λ i. record { seats = group_after g e ss i; pending = pending i; sent = group_sends g g (λ a z. refl) e ss kept i; calls = cs }

  -- which is nothing, if it is for others
  foreign_seen : bad_address ss ≡ false → (e : Event) (q : List Frame) → Foreign g e → seen g (acted e ss q) cs ≡ record { seats = group; pending = queue q; sent = []; calls = cs }
  foreign_seen none e q foreign =
      let stay = group_stays g e foreign ss (all_kept g ss lawful none border) in
      let pending = ap (λ t. queue q ++ t) stay.1 ∙ append-nil (queue q) in
      event_seen none e q ∙ (λ i. record { seats = stay.0 i; pending = pending i; sent = stay.1 i; calls = cs })

  -- a push concerns the group by its address
  push_follows : bad_address ss ≡ false → (a c e : ℕ) → Follows group [] (cond (g a) (Push a c e 0 ∷ cs) cs) (seen g (served ss [] (Push a c e 0)) cs)
  push_follows none a c e =
      elim (cases_Bool (g a)) [
        | inl m ↦ rw m (inl (ap Some (sym (event_seen none (Pushed _) []))))
        | inr m ↦ rw m (inr (foreign_seen none (Pushed _) [] m))
      ]

  -- in a step, the oldest frame passes, and it does so for the group if it bears 0 or an address of it
  step_follows : bad_address ss ≡ false → (f : Frame) (q : List Frame) → Follows group (queue (f ∷ q)) cs (seen g (acted (Heard f) ss q) cs)
  step_follows none f q =
      elim (cases_Bool (near g f.address)) [
        | inl m ↦ rw m (inl (ap Some (sym (event_seen none (Heard f) q))))
        | inr m ↦ rw m (inr (foreign_seen none (Heard f) q m))
      ]

  -- what the group sees of the turn is its next move or nothing, given that a clear removes nothing
  abbrev CallFollows : Call → List Frame → Turn → Type 0
  CallFollows c q t = ((n : ℕ) → t.answer ≡ cleared n → n ≡ 0) → Follows group (queue q) (noted g c t cs) (seen g t cs)

  -- of the checks, two matter: no seat is at 0, and put, push and second need a quiet house
  served_follows : (c : Call) (q : List Frame) → AllByRecursion (λ d. d.0 ≡ false) (checks ss q c) → CallFollows c q (served ss q c)
  served_follows (Put f) q p k = rw (quiet_now q p.1.1.1.1.0) (elim (cases_Bool (near g f.address)) [ inl m ↦ rw m (inl refl) | inr m ↦ rw m (inr refl) ])
  served_follows (Push a c e n) q p k = rw (quiet_now q p.1.1.1.1.1.1.0) (push_follows p.0 a c e)
  served_follows (Second n) q p k = rw (quiet_now q p.1.1.1.1.0) (inl (ap Some (sym (event_seen p.0 ASecond []))))
  served_follows (Step n) [] p k = absurd (true≢false p.1.1.1.1.0)
  served_follows (Step n) (f ∷ q) p k = step_follows p.0 f q
  served_follows Clear q p k = rw (nil_from_length q (k (length q) refl)) (inr refl)
  served_follows (Record a n) q p k = inr refl

  -- and a refused call is no move
  call_follows : (c : Call) (q : List Frame) → CallFollows c q (turn ss q c)
  call_follows c q = by (first_refusal (checks ss q c)) refl
    where
      by : (o : Option Refusal) → first_refusal (checks ss q c) ≡ o → CallFollows c q (decided o ss q c)
      by (Some r) e = λ k. inr refl
      by None e = served_follows c q (none_applies (checks ss q c) e)

-- seats keep the rules after every call
lawful_turn : (c : Call) (ss : List Seat) (q : List Frame) → AllByRecursion Lawful ss → AllByRecursion Lawful (turn ss q c).seats
lawful_turn c ss q l = by (first_refusal (checks ss q c)) c q
  where
    by : (o : Option Refusal) (c : Call) (q : List Frame) → AllByRecursion Lawful (decided o ss q c).seats
    by (Some r) c q = l
    by None (Put f) q = l
    by None (Push a c e n) q = lawful_after _ ss l
    by None (Second n) q = lawful_after ASecond ss l
    by None (Step n) [] = l
    by None (Step n) (f ∷ q) = lawful_after (Heard f) ss l
    by None Clear q = l
    by None (Record a n) q = l

module _ (g : ℕ → Bool) where
  -- the calls that concern the group, in an entry and those after it
  noted_first : (x : Bus) (c : Call) (es : List Entry) → concerning g (entry x c ∷ es) ≡ noted g c (turn x.seats x.pending c) (concerning g es)
  noted_first x c es = elim (cases_Bool (is_served (entry x c).answer && concerns g c)) [ inl m ↦ rw m refl | inr m ↦ rw m refl ]

  -- in a run of the house, the group's seats do what they do by themselves
  runs_alone : (es : List Entry) (x : Bus) (end : List Seat) → AllByRecursion Lawful x.seats → Run x es (quiet end) → Always (Uncrossed g) x es → ClearsNothing es →
      RunsAlone (members g x.seats) (frames_of (near g) x.pending) (concerning g es) (members g end) (frames_of g (all_sent es))
  runs_alone [] x end l r a k = rw (← r) at_end
  runs_alone (e ∷ es) x end l r a k =
      let t = turn x.seats x.pending e.call in
      let step = call_follows g x.seats l a.0 (concerning g es) e.call x.pending (λ n p. k.0 n (ap (λ d. d.answer) r.0 ∙ p)) in
      let rest = runs_alone es (called e.call x) end (lawful_turn e.call x.seats x.pending l) r.1 a.1 k.1 in
      rw (r.0, noted_first x e.call es, filter-append (λ f. g f.address) t.sent (all_sent es)) (moved_first _ _ _ (seen g t (concerning g es)) _ _ step rest)

-- so two runs that give the group the same start and the same calls end the same for it
pub isolation_law : (ss : List Seat) → AllByRecursion Lawful ss → IsolationLaw ss
isolation_law ss l g es end other fs last c =
    let one = runs_alone g es (quiet ss) end l c.here.run c.here.border c.here.clears in
    let two = runs_alone g fs (quiet other) last c.lawful c.there.run c.there.border c.there.clears in
    same_end one (rw (c.alike, c.calls) two)
