-- The status tells which channels are locked. Assumes nothing.
use Rattle.std.proofs.Common.{◌≡◌, ℕ, zero, suc, ◌+◌, ◌-◌, ◌*◌, ◌/◌, ◌%◌, Bool, true, false, cond, List, [], ◌∷◌, ◌++◌, get_or, refl, ap, ◌∙◌, arith}
use Rattle.std.specs.Int.{bit_at}
use Rattle.std.proofs.lemmas.Bool.{cond-true, cond-false}
use Rattle.std.proofs.lemmas.Nat.Bits.{bit_at_lowest, bit_at-suc, bit_at-zero}
use Rattle.bus.specs.Frames.{is_command, message}
use Rattle.bus.proofs.Commands.{other_command}
use Rattle.station.specs.Kinds.{Outcome}
use Rattle.module.proofs.Answered.{at_own}
use Rattle.module.proofs.Bitwise.{one, at_place}
use Rattle.timing.specs.Holds.{locked}
use Rattle.interface.specs.Channels.{locked_bits}
use Rattle.interface.specs.Interfaces.{status_sent, clock_sent, design}
use Rattle.interface.specs.States.{decoded}
use Rattle.button_laws.specs.Interfaces.{EveryInterface}
use Rattle.button_laws.specs.ModuleStatus.{StatusIsTold}
use Rattle.button_laws.proofs.Replies.{no_memory, no_type}

twice : (b : Bool) (w : ℕ) → cond b (2 * w) 0 ≡ 2 * cond b w 0
twice true w = refl
twice false w = refl

doubled : (w : ℕ) (hs : List ℕ) → locked_bits (2 * w) hs ≡ 2 * locked_bits w hs
doubled w [] = refl
doubled w (h ∷ hs) = omega (arith, twice (locked h) w, doubled (2 * w) hs)

low : (b : Bool) (n : ℕ) → (one b + 2 * n) % 2 ≡ one b
low true n = omega arith
low false n = omega arith

high : (b : Bool) (n : ℕ) → (one b + 2 * n) / 2 ≡ n
high true n = omega arith
high false n = omega arith

-- the bits of the locked channels
bits_locked : (hs : List ℕ) (i : ℕ) → bit_at (locked_bits 1 hs) i ≡ one (locked (get_or hs i 0))
bits_locked [] i = bit_at-zero i
bits_locked (h ∷ hs) zero = bit_at_lowest _ ∙ (ap (λ n. (one (locked h) + n) % 2) (doubled 1 hs) ∙ low (locked h) (locked_bits 1 hs))
bits_locked (h ∷ hs) (suc i) =
    bit_at-suc _ i
    ∙ (ap (λ n. bit_at ((one (locked h) + n) / 2) i) (doubled 1 hs)
    ∙ (ap (λ n. bit_at n i) (high (locked h) (locked_bits 1 hs)) ∙ bits_locked hs i))

pub status_is_told : EveryInterface StatusIsTold
status_is_told v s own r f e w =
    let x = decoded r.state in
    let status = message 3 own (0xED ∷ x.pressed ∷ 0xFF ∷ 0xFF ∷ locked_bits 1 x.holds ∷ 0 ∷ 0 ∷ []) ∷ [] in
    let told : status_sent own x f ≡ status = cond-true (is_command 0xFA 2 f) _ _ w in
    let no_clock : clock_sent own x.clock f ≡ [] = cond-false (is_command 0xD7 1 f) _ _ (other_command 0xFA 2 f w 0xD7 1 refl) in
    record {
      bits = locked_bits 1 x.holds;
      reply = ap (λ (o : Outcome). o.sent) (at_own (design v s) own r f e) ∙ (λ i. no_memory own 0xFA 2 f w refl refl refl r.cells i ++ (told i ++ (no_type own 0xFA 2 f w v s i ++ no_clock i)));
      of_channel = λ channel. at_place (locked_bits 1 x.holds) (channel - 1) (locked (get_or x.holds (channel - 1) 0)) (bits_locked x.holds (channel - 1));
    }
