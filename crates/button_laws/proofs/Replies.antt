-- What a frame gets no reply to, and the reply to a type request. Assumes nothing.
use Rattle.std.proofs.Common.{◌≡◌, ℕ, true, false, ◌&&◌, ◌||◌, eqb, List, [], ◌∷◌, ◌++◌, ap, ◌∙◌}
use Rattle.std.proofs.lemmas.Bool.{cond-true, cond-false, and_parts, and_left, and_right, or_from, eqb-true}
use Rattle.bus.specs.declared.frame.Frame.{Frame}
use Rattle.bus.specs.Frames.{byte, is_command, message}
use Rattle.bus.proofs.Commands.{other_command}
use Rattle.station.specs.Kinds.{Outcome}
use Rattle.module.specs.Memories.{memory_sent}
use Rattle.module.proofs.Answered.{at_own}
use Rattle.interface.specs.declared.variant.Variant.{Variant}
use Rattle.interface.specs.declared.setup.InterfaceSetup.{InterfaceSetup}
use Rattle.interface.specs.Interfaces.{status_sent, setup_bytes, type_sent, clock_sent, design}
use Rattle.interface.specs.States.{decoded}
use Rattle.button_laws.specs.Interfaces.{EveryInterface}
use Rattle.button_laws.specs.ModuleStatus.{TypeIsTold}

module _ (own code n : ℕ) (f : Frame) (w : is_command code n f ≡ true) where
  -- no memory command is another command
  pub no_memory : eqb code 0xFD ≡ false → eqb code 0xC9 ≡ false → eqb code 0xCA ≡ false → (cells : List ℕ) → memory_sent own cells f ≡ []
  no_memory one four block cells =
      cond-false (is_command 0xFD 3 f) _ _ (other_command code n f w 0xFD 3 one)
      ∙ cond-false (is_command 0xC9 3 f || is_command 0xCA 7 f) _ _
      (or_from (is_command 0xC9 3 f) (is_command 0xCA 7 f) (other_command code n f w 0xC9 3 four) (other_command code n f w 0xCA 7 block))

  -- nor is a type request, which has RTR 1
  pub no_type : (v : Variant) (s : InterfaceSetup) → type_sent v s own f ≡ []
  no_type v s =
      let zero_rtr = (and_parts (eqb f.rtr 0) (eqb f.count n) (and_parts (eqb (byte f 0) code) (eqb f.rtr 0 && eqb f.count n) w).1).0 in
      cond-false (eqb f.rtr 1 && eqb f.count 0) _ _ (and_left (eqb f.rtr 1) (eqb f.count 0) (ap (λ b. eqb b 1) (eqb-true f.rtr 0 zero_rtr)))

-- a type request is no command, since it has RTR 1
module _ (f : Frame) (w : (eqb f.rtr 1 && eqb f.count 0) ≡ true) where
  no_command : (code n : ℕ) → is_command code n f ≡ false
  no_command code n =
      let one_rtr : f.rtr ≡ 1 = eqb-true f.rtr 1 (and_parts (eqb f.rtr 1) (eqb f.count 0) w).0 in
      and_right (eqb (byte f 0) code) (eqb f.rtr 0 && eqb f.count n) (and_left (eqb f.rtr 0) (eqb f.count n) (ap (λ b. eqb b 0) one_rtr))

pub type_is_told : EveryInterface TypeIsTold
type_is_told v s own r f e w =
    let x = decoded r.state in
    let type = message 3 own (0xFF ∷ v.code ∷ setup_bytes s) ∷ [] in
    let none = no_command f w in
    let no_cells : memory_sent own r.cells f ≡ [] =
    cond-false (is_command 0xFD 3 f) _ _ (none 0xFD 3)
    ∙ cond-false (is_command 0xC9 3 f || is_command 0xCA 7 f) _ _ (or_from (is_command 0xC9 3 f) (is_command 0xCA 7 f) (none 0xC9 3) (none 0xCA 7)) in
    let no_status : status_sent own x f ≡ [] = cond-false (is_command 0xFA 2 f) _ _ (none 0xFA 2) in
    let told : type_sent v s own f ≡ type = cond-true (eqb f.rtr 1 && eqb f.count 0) _ _ w in
    let no_clock : clock_sent own x.clock f ≡ [] = cond-false (is_command 0xD7 1 f) _ _ (none 0xD7 1) in
    ap (λ (o : Outcome). o.sent) (at_own (design v s) own r f e) ∙ (λ i. no_cells i ++ (no_status i ++ (told i ++ no_clock i)))
