-- The first pair that matches is the one that is found and obeyed. Assumes nothing.
use Rattle.std.proofs.Common.{◌≡◌, ℕ, zero, suc, ◌+◌, ◌<◌, ◌≤◌, Bool, true, false, List, Some, None, Option, sym, refl, ap, ◌∙◌, subst, inl, inr, arith}
use Rattle.std.proofs.lemmas.Bool.{cond-true, cond-false, cases_Bool, cases_eq, both_ways}
use Rattle.bus.specs.declared.frame.Frame.{Frame}
use Rattle.station.specs.declared.event.Event.TheVariants.{Heard}
use Rattle.station.specs.Kinds.{Record, from_link}
use Rattle.relay.specs.declared.relay.RelaySetup.{RelaySetup}
use Rattle.relay.specs.declared.query.Query.{Query}
use Rattle.relay.specs.Relays.{contacts, query, pairs, by_pair, by_pairs}
use Rattle.relay.specs.Relays.{design as relay_design}
use Rattle.module.specs.Searches.{first}
use Rattle.relay.specs.Tables.{matches, first_pair}
use Rattle.relay.proofs.Decoded.{decoded}
use Rattle.laws.specs.Channels.{ChannelNumber, channel_1, channel_2, channel_3, channel_4, index, of_channel}
use Rattle.kinds.specs.Kinds.{relay_kind}
use Rattle.laws.specs.Pairs.{FirstMatch, NoMatch, FirstPairFound, NoPairFound, FirstMatchObeyed, NoMatchKept}
use Rattle.module.proofs.Answered.{at_link}

module _ (test : ℕ → Bool) where
  -- of n numbers from i on, p is the first that passes the test; none does
  record Found (i n p : ℕ) : Type 0 where
    from : i ≤ p
    below : p < i + n
    passes : test p ≡ true
    earlier : (q : ℕ) → i ≤ q → q < p → test q ≡ false

  abbrev NoneFound : ℕ → ℕ → Type 0
  NoneFound i n = (q : ℕ) → i ≤ q → q < i + n → test q ≡ false

  -- what a search answers is so
  abbrev Told : ℕ → ℕ → Option ℕ → Type 0
  Told i n None = NoneFound i n
  Told i n (Some p) = Found i n p

  -- one number more in front, which fails
  told_more : (i n : ℕ) → test i ≡ false → (o : Option ℕ) → Told (suc i) n o → Told i (suc n) o
  told_more i n t None h = λ q l m. elim (cases_eq i q) [ inl e ↦ ap test (sym e) ∙ t | inr d ↦ h q (omega arith) (omega arith) ]
  told_more i n t (Some p) h =
      record {
        from = omega (arith, h.from);
        below = omega (arith, h.below);
        passes = h.passes;
        earlier = λ q l m. elim (cases_eq i q) [ inl e ↦ ap test (sym e) ∙ t | inr d ↦ h.earlier q (omega arith) m ];
      }

  first_told : (i n : ℕ) → Told i n (first test i n)
  unfolding first
  first_told i zero = λ q l m. absurd (omega arith)
  first_told i (suc n) =
      elim (cases_Bool (test i)) [
        | inl e ↦ subst (Told i (suc n)) (sym (cond-true (test i) (Some i) (first test (suc i) n) e)) (record { from = omega arith; below = omega arith; passes = e; earlier = λ q l m. absurd (omega arith) })
        | inr e ↦ subst (Told i (suc n)) (sym (cond-false (test i) (Some i) (first test (suc i) n) e)) (told_more i n e (first test (suc i) n) (first_told (suc i) n))
      ]

module _ (cells : List ℕ) (c : ℕ) (s : Query) where
  told : Told (matches cells c s) 0 120 (first_pair cells c s)
  told = first_told (matches cells c s) 0 120

  -- what is told of an answer, in the words of the law
  some_match : (p : ℕ) → first_pair cells c s ≡ Some p → FirstMatch cells c s p
  some_match p e =
      let t : Found (matches cells c s) 0 120 p = subst (Told (matches cells c s) 0 120) e told in
      record { in_table = omega (arith, t.below); matching = t.passes; earlier = λ q l. t.earlier q (omega arith) l }

  none_match : first_pair cells c s ≡ None → NoMatch cells c s
  none_match e =
      let t : NoneFound (matches cells c s) 0 120 = subst (Told (matches cells c s) 0 120) e told in
      λ q l. t q (omega arith) (omega arith)

  match_found : (p : ℕ) → FirstMatch cells c s p → first_pair cells c s ≡ Some p
  match_found p m = by (first_pair cells c s) refl
    where
      by : (o : Option ℕ) → first_pair cells c s ≡ o → first_pair cells c s ≡ Some p
      by None e = absurd (both_ways (matches cells c s p) (none_match e p m.in_table) m.matching)
      by (Some q) e =
          let k = some_match q e in
          let before : q < p → ⊥ = λ l. both_ways (matches cells c s q) (m.earlier q l) k.matching in
          let after : p < q → ⊥ = λ l. both_ways (matches cells c s p) (k.earlier p l) m.matching in
          let same : q ≡ p = omega arith in
          e ∙ ap Some same

  no_match_found : NoMatch cells c s → first_pair cells c s ≡ None
  no_match_found m = by (first_pair cells c s) refl
    where
      by : (o : Option ℕ) → first_pair cells c s ≡ o → first_pair cells c s ≡ None
      by None e = e
      by (Some p) e = let k = some_match p e in absurd (both_ways (matches cells c s p) (m p k.in_table) k.matching)

pub first_pair_found : FirstPairFound
first_pair_found cells c s p = (some_match cells c s p, match_found cells c s p)

pub no_pair_found : NoPairFound
no_pair_found cells c s = (none_match cells c s, no_match_found cells c s)

-- each channel after a button status from a linked address
channel_after : (s : RelaySetup) (own : ℕ) (r : Record) (f : Frame) → from_link (relay_kind s) own r f ≡ true → (c : ChannelNumber) →
    of_channel c (contacts ((relay_kind s).acts own r (Heard f)).after) ≡ by_pair (of_channel c s.timers) (first_pair r.cells (index c) (query f)) (of_channel c (contacts r))
channel_after s own r f l c =
    ap (λ o. of_channel c (contacts o.after)) (at_link (relay_design s) own r f l)
    ∙ (ap (of_channel c) (decoded r.cells (by_pairs s.timers (pairs r.cells f) (contacts r))) ∙ each c)
  where
    each : (c : ChannelNumber) → of_channel c (by_pairs s.timers (pairs r.cells f) (contacts r)) ≡ by_pair (of_channel c s.timers) (first_pair r.cells (index c) (query f)) (of_channel c (contacts r))
    each channel_1 = refl
    each channel_2 = refl
    each channel_3 = refl
    each channel_4 = refl

pub first_match_obeyed : FirstMatchObeyed
first_match_obeyed s own r f l c p m =
    channel_after s own r f l c ∙ ap (λ o. by_pair (of_channel c s.timers) o (of_channel c (contacts r))) (match_found r.cells (index c) (query f) p m)

pub no_match_kept : NoMatchKept
no_match_kept s own r f l c m =
    channel_after s own r f l c ∙ ap (λ o. by_pair (of_channel c s.timers) o (of_channel c (contacts r))) (no_match_found r.cells (index c) (query f) m)
