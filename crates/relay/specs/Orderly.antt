-- The relay's design keeps the rules. Assumes nothing.
use Rattle.std.specs.Prelude.{◌≡◌, ℕ, ◌≤◌, Bool, ◌⊎◌, length, refl}
use Rattle.std.proofs.Common.{inl, inr, arith, length-append}
use Rattle.std.proofs.lemmas.Bool.{cond_both}
use Rattle.bus.specs.declared.frame.Frame.{Frame}
use Rattle.bus.specs.Frames.{is_command}
use Rattle.module.specs.Designs.{Orderly, OnlyOwn}
use Rattle.module.specs.Memories.{memory_sent}
use Rattle.module.proofs.Sent.{memory_sends_one}
use Rattle.relay.specs.declared.per_channel.PerChannel.{PerChannel}
use Rattle.relay.specs.Contacts.{Contact}
use Rattle.relay.specs.declared.relay.RelaySetup.{RelaySetup}
use Rattle.relay.specs.Relays.{contacts, commanded, named_channels, carried_out, answer, pairs, by_pairs, all_bits, all_ticked, design}
use Rattle.relay.specs.Reports.{made, statuses, report, lamps}
use Rattle.relay.specs.AllSent.{Forms, Lamps, all_command, all_status, all_second}
use Rattle.relay.specs.Sent.{four_told, five_reported, four_lamps}

-- a frame bears the own address or one that is allowed
abbrev Bears : ℕ → (ℕ → Type 0) → Frame → Type 0
Bears own Allowed f = (f.address ≡ own) ⊎ Allowed f.address

own_forms : (own : ℕ) (Allowed : ℕ → Type 0) → Forms (Bears own Allowed) own
own_forms own Allowed =
    record { cell = λ h l b. inl refl; block = λ h l a b c d. inl refl; channel = λ bit s a b c. inl refl; switch = λ on off. inl refl }

button_lamps : (own a : ℕ) → Lamps (Bears own (λ b. b ≡ a)) a
button_lamps own a = record { on = λ bits. inr refl; out = λ bits. inr refl }

five_answered : (own : ℕ) (f : Frame) (was : PerChannel Bool) (x : PerChannel Contact) → length (answer own f was x) ≤ 5
five_answered own f was x =
    cond_both (is_command 0xFA 2 f) (statuses own (named_channels f) x) (report own was x) (λ t. length t ≤ 5)
    (λ _. omega (arith, four_told own (named_channels f) x)) (λ _. five_reported own was x)

pub relay_orderly : (s : RelaySetup) → Orderly (design s)
relay_orderly s =
    record {
      small = omega arith;
      command = λ own r f.
          let was = contacts r in
          let is = carried_out (commanded f) (named_channels f) was in
          record {
            nine =
                omega (arith, length-append (memory_sent own r.cells f) (answer own f (made was) is), memory_sends_one own r.cells f, five_answered own f (made was) is);
            bears = all_command (Bears own OnlyOwn) own (own_forms own OnlyOwn) r f;
            keeps = refl;
          };
      broadcast = λ own r f. record { nine = omega arith; bears = tt; keeps = refl };
      status = λ own r f.
          let was = contacts r in
          let is = by_pairs s.timers (pairs r.cells f) was in
          let lit = lamps f.address (made was) (made is) (all_bits r.cells (pairs r.cells f)) in
          record {
            nine =
                omega (arith, length-append (report own (made was) is) lit, five_reported own (made was) is, four_lamps f.address (made was) (made is) (all_bits r.cells (pairs r.cells f)));
            bears = all_status (Bears own (λ b. b ≡ f.address)) s own (own_forms own (λ b. b ≡ f.address)) r f (button_lamps own f.address);
            keeps = refl;
          };
      second = λ own r.
          record {
            nine = omega (arith, five_reported own (made (contacts r)) (all_ticked (contacts r)));
            bears = all_second (Bears own OnlyOwn) own (own_forms own OnlyOwn) r;
            keeps = refl;
          };
      push = λ own r channel edge. record { nine = omega arith; bears = tt; keeps = refl };
    }
