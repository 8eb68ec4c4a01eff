-- A chime keeps the rules wherever events lead, since it takes no more than nine strokes. Assumes nothing.
use Rattle.std.specs.Prelude.{◌≡◌, ℕ, zero, suc, ◌+◌, ◌≤◌, Bool, true, false, cond, ◌&&◌, ◌||◌, List, [], ◌∷◌, length, replicate, ◌==◌, nat_le, refl}
use Rattle.std.proofs.Common.{inl, ap, ◌∙◌, arith}
use Rattle.std.proofs.lemmas.List.{length-replicate}
use Rattle.std.specs.List.{AllByRecursion}
use Rattle.std.proofs.lemmas.Bool.{or_parts, and_left, cond_both, cond-false, true≢false, leb-true}
use Rattle.bus.specs.declared.frame.Frame.{Frame}
use Rattle.bus.specs.Frames.{byte, is_command}
use Rattle.station.specs.declared.event.Event.{Event}
use Rattle.station.specs.declared.event.Event.TheVariants.{Heard, Second, Pushed}
use Rattle.station.specs.Kinds.{Record, Outcome, is_status, linked, reaches}
use Rattle.station.specs.Rules.{cell, put, stored, cells_after, Bears, Rules, later}
use Rattle.station.proofs.Puts.{length-put}
use Rattle.chime.specs.declared.command.Command.{Command}
use Rattle.chime.specs.declared.command.Command.TheVariants.{Write, WriteBlock, Follow, Other}
use Rattle.chime.specs.Commands.{command_of, put_in, obeyed}
use Rattle.chime.specs.Chimes.{names, strokes, stroke, silent, struck, rings, acts, chime_kind}

-- what events keep of a record, and what the rules need of it
pub record Kept (r : Record) : Type 0 where
  pub full : length r.cells ≡ 37
  pub few : strokes r ≤ 9

pub length_put_in : (cells : List ℕ) (at : ℕ) (bs : List ℕ) → length (put_in cells at bs) ≡ length cells
length_put_in cells at bs =
    cond_both (nat_le (at + length bs) (length cells)) (put cells at bs) cells (λ t. length t ≡ length cells) (λ _. length-put cells at bs) (λ _. refl)

-- no command leads to more than nine strokes
kept_obeyed : (r : Record) (c : Command) → Kept r → Kept (obeyed r c)
kept_obeyed r (Write at b) k = record { full = length_put_in r.cells at (b ∷ []) ∙ k.full; few = k.few }
kept_obeyed r (WriteBlock at bs) k = record { full = length_put_in r.cells at bs ∙ k.full; few = k.few }
kept_obeyed r (Follow a n) k =
    record {
      full = k.full;
      few =
          cond_both (nat_le n 9) (a ∷ n ∷ []) r.state (λ s. strokes (record { cells = r.cells; state = s }) ≤ 9) (λ e. leb-true n 9 e) (λ _. k.few);
    }
kept_obeyed r Other k = k

-- a command changes the cells as the rules say
stores : (r : Record) (b c d : Bool) (at x a n : ℕ) (xs : List ℕ) → (obeyed r (cond b (Write at x) (cond c (WriteBlock at xs) (cond d (Follow a n) Other)))).cells ≡ put_in r.cells at (cond b (x ∷ []) (cond c xs []))
stores r true c d at x a n xs = refl
stores r false true d at x a n xs = refl
stores r false false true at x a n xs = cond_both (nat_le (at + 0) (length r.cells)) r.cells r.cells (λ t. r.cells ≡ t) (λ _. refl) (λ _. refl)
stores r false false false at x a n xs = cond_both (nat_le (at + 0) (length r.cells)) r.cells r.cells (λ t. r.cells ≡ t) (λ _. refl) (λ _. refl)

obeyed_stores : (r : Record) (f : Frame) → (obeyed r (command_of f)).cells ≡ stored r.cells f
obeyed_stores r f =
    stores r (is_command 0xFC 4 f) (is_command 0xCA 7 f) (is_command 0xA0 3 f) (cell f) (byte f 3) (byte f 1) (byte f 2) (byte f 3 ∷ byte f 4 ∷ byte f 5 ∷ byte f 6 ∷ [])

module _ (tone own : ℕ) (r : Record) (k : Kept r) where
  -- what the rules ask of an outcome, and that it keeps what they need
  record Keeps (cells : List ℕ) (o : Outcome) : Type 0 where
    nine : length o.sent ≤ 9
    bears : AllByRecursion (Bears (chime_kind tone) own r) o.sent
    writes : o.after.cells ≡ cells
    kept : Kept o.after

  silent_keeps : Keeps r.cells (silent r)
  silent_keeps = record { nine = omega arith; bears = tt; writes = refl; kept = k }

  strokes_bear : (n : ℕ) → AllByRecursion (Bears (chime_kind tone) own r) (replicate n (stroke tone own))
  strokes_bear zero = tt
  strokes_bear (suc n) = (inl refl, strokes_bear n)

  struck_keeps : (n : ℕ) → n ≤ 9 → Keeps r.cells (struck tone own n r)
  struck_keeps n few =
      record { nine = omega (arith, length-replicate n (stroke tone own)); bears = strokes_bear n; writes = refl; kept = k }

  command_keeps : (f : Frame) → Keeps (stored r.cells f) (silent (obeyed r (command_of f)))
  command_keeps f = record { nine = omega arith; bears = tt; writes = obeyed_stores r f; kept = kept_obeyed r (command_of f) k }

  both : (b : Bool) (c c' : List ℕ) (o o' : Outcome) → Keeps c o → Keeps c' o' → Keeps (cond b c c') (cond b o o')
  both true c c' o o' h h' = h
  both false c c' o o' h h' = h'

  event_keeps : (e : Event) → Keeps (cells_after own r.cells e) (acts tone own r e)
  event_keeps (Heard f) =
      both (f.address == own) _ _ _ _ (command_keeps f)
      (cond_both (is_status f && linked names own r f.address) _ _ (Keeps r.cells) (λ _. struck_keeps (strokes r) k.few) (λ _. silent_keeps))
  event_keeps Second = silent_keeps
  event_keeps (Pushed p) =
      cond_both (p.address == own && rings p) _ _ (Keeps r.cells) (λ _. struck_keeps 1 (omega arith)) (λ _. silent_keeps)

  -- what does not reach the chime leaves it silent
  unreached_silent : (e : Event) → reaches (chime_kind tone) own r e ≡ false → acts tone own r e ≡ silent r
  unreached_silent (Heard f) h =
      let a = f.address in
      let one = or_parts (a == own) (a == 0 || (is_status f && linked names own r a)) h in
      let two = or_parts (a == 0) (is_status f && linked names own r a) one.1 in
      cond-false (a == own) _ _ one.0 ∙ cond-false (is_status f && linked names own r a) _ _ two.1
  unreached_silent Second h = absurd (true≢false h)
  unreached_silent (Pushed p) h = cond-false (p.address == own && rings p) _ _ (and_left (p.address == own) (rings p) h)

  rules : Rules (chime_kind tone) own r
  rules =
      record {
        unreached = λ e h. (ap (λ o. o.after) (unreached_silent e h), ap (λ o. o.sent) (unreached_silent e h));
        nine = λ e. (event_keeps e).nine;
        bears = λ e. (event_keeps e).bears;
        writes = λ e. (event_keeps e).writes;
        sized = k.full;
        small = omega arith;
      }

pub chime_lawful : (tone own : ℕ) (r : Record) → Kept r → (es : List Event) → Rules (chime_kind tone) own (later (chime_kind tone) own r es)
chime_lawful tone own r k [] = rules tone own r k
chime_lawful tone own r k (e ∷ es) = chime_lawful tone own (acts tone own r e).after (event_keeps tone own r k e).kept es
