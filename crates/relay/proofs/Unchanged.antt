-- Where nothing changes, nothing is told. Assumes nothing.
use Rattle.std.proofs.Common.{◌≡◌, ℕ, ◌+◌, Bool, true, false, ◌&&◌, ◌||◌, eqb, [], ◌++◌, refl, ap, ◌∙◌}
use Rattle.std.proofs.lemmas.Bool.{cond-true, or_parts, true≢false}
use Rattle.relay.specs.declared.per_channel.PerChannel.{PerChannel}
use Rattle.relay.specs.Channels.{each, some}
use Rattle.relay.specs.Contacts.{Contact, opened, closed, running, is_running, ticked}
use Rattle.relay.specs.Relays.{all_ticked}
use Rattle.relay.specs.Reports.{made, told, statuses, differ, changes, rise, risen, switched, report}

-- it is so of no channel
record Nowhere (w : PerChannel Bool) : Type 0 where
  one : w.one ≡ false
  two : w.two ≡ false
  three : w.three ≡ false
  four : w.four ≡ false

nowhere : (w : PerChannel Bool) → some w ≡ false → Nowhere w
nowhere w e =
    let a = or_parts w.one (w.two || (w.three || w.four)) e in
    let b = or_parts w.two (w.three || w.four) a.1 in
    let c = or_parts w.three w.four b.1 in
    record { one = a.0; two = b.0; three = c.0; four = c.1 }

-- where it does not differ it is the same
unchanged : (was is : Bool) → differ was is ≡ false → was ≡ is
unchanged true true e = refl
unchanged true false e = absurd (true≢false e)
unchanged false true e = absurd (true≢false e)
unchanged false false e = refl

same : (b : Bool) → differ b b ≡ false
same true = refl
same false = refl

no_rise : (bit : ℕ) (b : Bool) → rise bit b b ≡ 0
no_rise bit true = refl
no_rise bit false = refl

-- contacts as they were
pub same_unreported : (own : ℕ) (x : PerChannel Contact) → report own (made x) x ≡ []
same_unreported own x =
    let is = made x in
    let silent : statuses own (changes is is) x ≡ [] =
    λ i. told own 1 (same is.one i) x.one ++ (told own 2 (same is.two i) x.two ++ (told own 4 (same is.three i) x.three ++ told own 8 (same is.four i) x.four)) in
    let none : risen is is ≡ 0 =
    λ i. no_rise 1 is.one i + (no_rise 2 is.two i + (no_rise 4 is.three i + no_rise 8 is.four i)) in
    ap (λ t. t ++ switched own is is) silent ∙ cond-true _ _ _ (λ i. eqb (none i) 0 && eqb (none i) 0)

-- contacts none of which changed
pub unreported : (own : ℕ) (was : PerChannel Bool) (x : PerChannel Contact) → some (changes was (made x)) ≡ false → report own was x ≡ []
unreported own was x e =
    let is = made x in
    let n = nowhere (changes was is) e in
    let as_was : was ≡ is =
    λ i. record { one = unchanged was.one is.one n.one i; two = unchanged was.two is.two n.two i; three = unchanged was.three is.three n.three i; four = unchanged was.four is.four n.four i } in
    ap (λ w. report own w x) as_was ∙ same_unreported own x

one_not_ticked : (x : Contact) → is_running x ≡ false → ticked x ≡ x
one_not_ticked opened e = refl
one_not_ticked closed e = refl
one_not_ticked (running n) e = absurd (true≢false e)

-- a second where no time runs
pub not_ticked : (x : PerChannel Contact) → some (each is_running x) ≡ false → all_ticked x ≡ x
not_ticked x e =
    let n = nowhere (each is_running x) e in
    (λ i. record { one = one_not_ticked x.one n.one i; two = one_not_ticked x.two n.two i; three = one_not_ticked x.three n.three i; four = one_not_ticked x.four n.four i })

pub not_ticked_unreported : (own : ℕ) (x : PerChannel Contact) → some (each is_running x) ≡ false → report own (made x) (all_ticked x) ≡ []
not_ticked_unreported own x e = ap (report own (made x)) (not_ticked x e) ∙ same_unreported own x
