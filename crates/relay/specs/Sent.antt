-- How much the relay tells. Assumes nothing.
use Rattle.std.specs.Prelude.{ℕ, ◌≤◌, Bool, cond, ◌&&◌, List, [], ◌∷◌, ◌++◌, length, Some, None, Option, ◌==◌}
use Rattle.std.proofs.Common.{arith, length-append}
use Rattle.std.proofs.lemmas.Bool.{cond_both}
use Rattle.bus.specs.declared.frame.Frame.{Frame}
use Rattle.bus.specs.Frames.{message}
use Rattle.module.proofs.Sent.{one_at_most}
use Rattle.relay.specs.declared.per_channel.PerChannel.{PerChannel}
use Rattle.relay.specs.Contacts.{Contact}
use Rattle.relay.specs.Reports.{made, status_frame, told, statuses, differ, changes, risen, switched, report, lamp, lamps}

pub one_told : (own bit : ℕ) (wanted : Bool) (x : Contact) → length (told own bit wanted x) ≤ 1
one_told own bit wanted x = one_at_most wanted (status_frame own bit x)

pub one_lamp : (address : ℕ) (was is : Bool) (bits : Option ℕ) → length (lamp address was is bits) ≤ 1
one_lamp address was is None = omega arith
one_lamp address was is (Some bits) = one_at_most (differ was is) (message 3 address (cond is 0xF6 0xF5 ∷ bits ∷ []))

-- four lists of one at most
four_at_most : (a b c d : List Frame) → length a ≤ 1 → length b ≤ 1 → length c ≤ 1 → length d ≤ 1 → length (a ++ (b ++ (c ++ d))) ≤ 4
four_at_most a b c d p q r s = simp length-append (omega arith)

pub four_told : (own : ℕ) (w : PerChannel Bool) (x : PerChannel Contact) → length (statuses own w x) ≤ 4
four_told own w x =
    four_at_most _ _ _ _ (one_told own 1 w.one x.one) (one_told own 2 w.two x.two) (one_told own 4 w.three x.three) (one_told own 8 w.four x.four)

pub four_lamps : (address : ℕ) (was is : PerChannel Bool) (bits : PerChannel (Option ℕ)) → length (lamps address was is bits) ≤ 4
four_lamps a was is bits =
    four_at_most _ _ _ _ (one_lamp a was.one is.one bits.one) (one_lamp a was.two is.two bits.two)
    (one_lamp a was.three is.three bits.three) (one_lamp a was.four is.four bits.four)

pub one_switched : (own : ℕ) (was is : PerChannel Bool) → length (switched own was is) ≤ 1
one_switched own was is =
    cond_both (risen was is == 0 && risen is was == 0) [] (message 0 own (0x00 ∷ risen was is ∷ risen is was ∷ 0 ∷ []) ∷ []) (λ t. length t ≤ 1)
    (λ _. omega arith) (λ _. omega arith)

pub five_reported : (own : ℕ) (was : PerChannel Bool) (x : PerChannel Contact) → length (report own was x) ≤ 5
five_reported own was x =
    omega (arith, length-append (statuses own (changes was (made x)) x) (switched own was (made x)), four_told own (changes was (made x)) x, one_switched own was (made x))
