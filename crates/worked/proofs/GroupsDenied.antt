-- What is no border, and no list of a group. Assumes nothing.
use Rattle.std.proofs.Common.{◌≡◌, ℕ, zero, suc, ◌+◌, ◌<◌, ◌≤◌, Bool, true, false, ◌||◌, List, [], ◌∷◌, length, take, drop, ◌==◌, slice_index, slice_index_or, sym, refl, ap, ◌∙◌, inl, inr, arith}
use Rattle.std.specs.List.{All, Contains, AllPairs}
use Rattle.std.proofs.lemmas.Bool.{false≢true, true≢false, or_cases, eqb-true}
use Rattle.station.specs.Kinds.{Record, Seat}
use Rattle.module.specs.Searches.{first}
use Rattle.groups.specs.Links.{Belongs, itself, linked_by, links_to, link, InGroup, Uncrossed, Lists, ListsGroup}
use Rattle.groups.proofs.Members.{smallest}
use Rattle.worked.specs.WorkedRun.{relay_setup, panel_setup, relay_at, panel_at, linked_cells, here_end, panel_only}
use Rattle.worked.specs.Denied.{GroupsDenied}
use Rattle.worked.proofs.Borders.{pair, none_stray_of_pair, relay_within, panel_within, uncrossed}

pair_uncrossed : Uncrossed pair here_end
pair_uncrossed =
    uncrossed pair here_end
    (panel_within pair panel_setup 0x30 (panel_at 0x30 0 1).content, (relay_within pair relay_setup 0x10 (relay_at 0x10 (linked_cells 0x20) 1).content none_stray_of_pair, (panel_within pair panel_setup 0x20 (panel_at 0x20 5 1).content, tt)))

pair_linked : link here_end 0x10 0x20 ≡ true
unfolding first
pair_linked = refl

panel_in_group : InGroup here_end 0x10 0x20
panel_in_group = linked_by 0x10 0x20 itself pair_linked

only_pair : (b : ℕ) → InGroup here_end 0x10 b → pair b ≡ true
only_pair b m = smallest here_end 0x10 pair refl pair_uncrossed b m

outside : InGroup here_end 0x10 0x30 → ⊥
outside m = false≢true (only_pair 0x30 m)

pair_listed : (b : ℕ) → InGroup here_end 0x10 b → Contains {X = ℕ} (0x10 ∷ 0x20 ∷ []) b
pair_listed b m =
    elim (or_cases (b == 0x10) (b == 0x20) (only_pair b m)) [
      | inl e ↦ (0, omega arith, sym (eqb-true b 0x10 e))
      | inr e ↦ (1, omega arith, sym (eqb-true b 0x20 e))
    ]

not_alone : Contains {X = ℕ} (0x10 ∷ []) 0x20 → ⊥
not_alone (zero, low, e) = omega (arith, e)
not_alone (suc k, low, e) = omega (arith, low)

pub groups_denied : GroupsDenied
groups_denied =
    record {
      allowed = record { fits = omega arith; members = both; complete = pair_listed; once = rising; rest = refl; size = refl };
      crossed = λ u. false≢true (u 0x10 0x20 pair_linked);
      outsider = outside;
      one_missing = λ l. not_alone (l.complete 0x20 panel_in_group);
      one_more = λ l. outside (l.members 2 0 (omega arith));
      twice = λ l. omega (arith, l.once 1 2 0 (omega arith) (omega arith));
      disordered = λ l. omega (arith, l.once 0 1 0 (omega arith) (omega arith));
      overwritten = λ l. omega (arith, ap (λ t. slice_index t 0) l.rest);
    }
  where
    both : All (InGroup here_end 0x10) (0x10 ∷ 0x20 ∷ [])
    both zero d low = itself
    both (suc zero) d low = panel_in_group
    both (suc (suc k)) d low = absurd (omega (arith, low))

    rising : AllPairs (λ b c. b < c) (0x10 ∷ 0x20 ∷ [])
    rising zero zero d p q = absurd (omega (arith, p))
    rising zero (suc zero) d p q = omega arith
    rising zero (suc (suc j)) d p q = absurd (omega (arith, q))
    rising (suc i) zero d p q = absurd (omega (arith, p))
    rising (suc i) (suc zero) d p q = absurd (omega (arith, p))
    rising (suc i) (suc (suc j)) d p q = absurd (omega (arith, q))
