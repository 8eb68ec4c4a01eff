-- What holds of each form of frame that a relay sends holds of all that it sends. Assumes nothing.
use Rattle.std.specs.Prelude.{ℕ, Bool, true, false, cond, ◌&&◌, List, [], ◌∷◌, ◌++◌, Some, None, Option, ◌==◌}
use Rattle.std.specs.List.{AllByRecursion}
use Rattle.std.proofs.ByRecursion.{All-append}
use Rattle.std.proofs.lemmas.Bool.{cond_both}
use Rattle.bus.specs.declared.frame.Frame.{Frame}
use Rattle.bus.specs.Frames.{is_command, message}
use Rattle.station.specs.Kinds.{Record}
use Rattle.module.specs.Memories.{memory_sent}
use Rattle.module.proofs.Sent.{all_one, all_memory}
use Rattle.relay.specs.declared.per_channel.PerChannel.{PerChannel}
use Rattle.relay.specs.declared.relay.RelaySetup.{RelaySetup}
use Rattle.relay.specs.Contacts.{Contact}
use Rattle.relay.specs.Relays.{contacts, commanded, named_channels, carried_out, answer, command, status, second, pairs, by_pairs, all_bits, all_ticked}
use Rattle.relay.specs.Reports.{made, status_frame, told, statuses, differ, changes, risen, switched, report, lamp, lamps}

-- P holds of each form: a cell and a block of the memory, a channel's status, what was switched
pub record Forms (P : Frame → Type 0) (own : ℕ) : Type 0 where
  pub cell : (h l b : ℕ) → P (message 3 own (0xFE ∷ h ∷ l ∷ b ∷ []))
  pub block : (h l a b c d : ℕ) → P (message 3 own (0xCC ∷ h ∷ l ∷ a ∷ b ∷ c ∷ d ∷ []))
  pub channel : (bit s a b c : ℕ) → P (message 3 own (0xFB ∷ bit ∷ 0 ∷ s ∷ 0 ∷ a ∷ b ∷ c ∷ []))
  pub switch : (on off : ℕ) → P (message 0 own (0x00 ∷ on ∷ off ∷ 0 ∷ []))

-- P holds of a lamp frame to an address
pub record Lamps (P : Frame → Type 0) (address : ℕ) : Type 0 where
  pub on : (bits : ℕ) → P (message 3 address (0xF6 ∷ bits ∷ []))
  pub out : (bits : ℕ) → P (message 3 address (0xF5 ∷ bits ∷ []))

module _ (P : Frame → Type 0) where
  all_four : (a b c d : List Frame) → AllByRecursion P a → AllByRecursion P b → AllByRecursion P c → AllByRecursion P d → AllByRecursion P (a ++ (b ++ (c ++ d)))
  all_four a b c d p q r s = All-append P a (b ++ (c ++ d)) p (All-append P b (c ++ d) q (All-append P c d r s))

  all_told : (own : ℕ) → Forms P own → (bit : ℕ) (w : Bool) (x : Contact) → AllByRecursion P (told own bit w x)
  all_told own t bit w x = all_one P w (status_frame own bit x) (t.channel bit _ _ _ _)

  pub all_statuses : (own : ℕ) → Forms P own → (w : PerChannel Bool) (x : PerChannel Contact) → AllByRecursion P (statuses own w x)
  all_statuses own t w x =
      all_four _ _ _ _ (all_told own t 1 w.one x.one) (all_told own t 2 w.two x.two) (all_told own t 4 w.three x.three) (all_told own t 8 w.four x.four)

  pub all_report : (own : ℕ) → Forms P own → (was : PerChannel Bool) (x : PerChannel Contact) → AllByRecursion P (report own was x)
  all_report own t was x =
      All-append P (statuses own (changes was (made x)) x) (switched own was (made x)) (all_statuses own t (changes was (made x)) x)
      (cond_both (risen was (made x) == 0 && risen (made x) was == 0) [] (message 0 own (0x00 ∷ risen was (made x) ∷ risen (made x) was ∷ 0 ∷ []) ∷ []) (AllByRecursion P)
      (λ _. tt) (λ _. (t.switch (risen was (made x)) (risen (made x) was), tt)))

  lamp_form : (address : ℕ) → Lamps P address → (is : Bool) (bits : ℕ) → P (message 3 address (cond is 0xF6 0xF5 ∷ bits ∷ []))
  lamp_form address t true bits = t.on bits
  lamp_form address t false bits = t.out bits

  all_lamp : (address : ℕ) → Lamps P address → (was is : Bool) (bits : Option ℕ) → AllByRecursion P (lamp address was is bits)
  all_lamp address t was is None = tt
  all_lamp address t was is (Some bits) = all_one P (differ was is) (message 3 address (cond is 0xF6 0xF5 ∷ bits ∷ [])) (lamp_form address t is bits)

  pub all_lamps : (address : ℕ) → Lamps P address → (was is : PerChannel Bool) (bits : PerChannel (Option ℕ)) → AllByRecursion P (lamps address was is bits)
  all_lamps a t was is bits =
      all_four _ _ _ _ (all_lamp a t was.one is.one bits.one) (all_lamp a t was.two is.two bits.two)
      (all_lamp a t was.three is.three bits.three) (all_lamp a t was.four is.four bits.four)

  all_answer : (own : ℕ) → Forms P own → (f : Frame) (was : PerChannel Bool) (x : PerChannel Contact) → AllByRecursion P (answer own f was x)
  all_answer own t f was x =
      cond_both (is_command 0xFA 2 f) (statuses own (named_channels f) x) (report own was x) (AllByRecursion P)
      (λ _. all_statuses own t (named_channels f) x) (λ _. all_report own t was x)

  pub all_command : (own : ℕ) → Forms P own → (r : Record) (f : Frame) → AllByRecursion P (command own r f).sent
  all_command own t r f =
      let was = contacts r in
      let is = carried_out (commanded f) (named_channels f) was in
      All-append P (memory_sent own r.cells f) (answer own f (made was) is)
      (all_memory P own r.cells f (t.cell _ _ _) (t.block _ _ _ _ _ _)) (all_answer own t f (made was) is)

  pub all_status : (s : RelaySetup) (own : ℕ) → Forms P own → (r : Record) (f : Frame) → Lamps P f.address → AllByRecursion P (status s own r f).sent
  all_status s own t r f l =
      let was = contacts r in
      let is = by_pairs s.timers (pairs r.cells f) was in
      All-append P (report own (made was) is) _ (all_report own t (made was) is)
      (all_lamps f.address l (made was) (made is) (all_bits r.cells (pairs r.cells f)))

  pub all_second : (own : ℕ) → Forms P own → (r : Record) → AllByRecursion P (second own r).sent
  all_second own t r = all_report own t (made (contacts r)) (all_ticked (contacts r))
