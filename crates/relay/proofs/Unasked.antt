-- A button status with no button just pressed changes nothing. Assumes nothing.
use Rattle.std.proofs.Common.{◌≡◌, ℕ, ◌+◌, ◌/◌, false, not, ◌&&◌, eqb, List, [], ◌++◌, None, Option, get_or, ap, ◌∙◌}
use Rattle.std.proofs.Math.Bool.{and-false}
use Rattle.bus.specs.declared.frame.Frame.{Frame}
use Rattle.bus.specs.Frames.{byte}
use Rattle.module.specs.Bits.{has_bit}
use Rattle.module.proofs.Bitwise.{has_none}
use Rattle.module.proofs.First.{first_none}
use Rattle.relay.specs.declared.per_channel.PerChannel.{PerChannel}
use Rattle.relay.specs.declared.timers.Timers.{Timers}
use Rattle.relay.specs.Channels.{numbered}
use Rattle.relay.specs.Contacts.{Contact}
use Rattle.relay.specs.Relays.{query, pairs, by_pairs, all_bits}
use Rattle.relay.specs.Reports.{made, report, lamps}
use Rattle.relay.specs.Tables.{pair_cell, matches}
use Rattle.relay.proofs.Unchanged.{same_unreported}

no_match : (cells : List ℕ) (c : ℕ) (f : Frame) → byte f 1 ≡ 0 → (p : ℕ) → matches cells c (query f) p ≡ false
no_match cells c f e p =
    let other = not (eqb (p / 15) 3) in
    let here = eqb (get_or cells (pair_cell c p) 0) f.address in
    let bits = get_or cells (pair_cell c p + 1) 0 in
    (λ i. other && (here && has_bit bits (e i)))
    ∙ ((λ i. other && (here && has_none bits i)) ∙ (ap (λ b. other && b) (and-false here) ∙ and-false other))

abbrev nothing : PerChannel (Option ℕ)
nothing = numbered (λ c. None)

no_pairs : (cells : List ℕ) (f : Frame) → byte f 1 ≡ 0 → pairs cells f ≡ nothing
no_pairs cells f e = λ i. numbered (λ c. first_none (matches cells c (query f)) (no_match cells c f e) 0 120 i)

-- so no channel changes
pub unasked : (cells : List ℕ) (f : Frame) (t : PerChannel Timers) (x : PerChannel Contact) → byte f 1 ≡ 0 → by_pairs t (pairs cells f) x ≡ x
unasked cells f t x e = ap (λ p. by_pairs t p x) (no_pairs cells f e)

-- and nothing is sent
pub unasked_unsent : (own : ℕ) (cells : List ℕ) (f : Frame) (t : PerChannel Timers) (x : PerChannel Contact) → byte f 1 ≡ 0 → report own (made x) (by_pairs t (pairs cells f) x) ++ lamps f.address (made x) (made (by_pairs t (pairs cells f) x)) (all_bits cells (pairs cells f)) ≡ []
unasked_unsent own cells f t x e =
    (λ i. report own (made x) (unasked cells f t x e i) ++ lamps f.address (made x) (made (unasked cells f t x e i)) (all_bits cells (no_pairs cells f e i)))
    ∙ ap (λ r. r ++ []) (same_unreported own x)
