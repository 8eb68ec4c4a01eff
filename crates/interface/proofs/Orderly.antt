-- The design of every model keeps the rules. Assumes nothing.
use Rattle.std.proofs.Common.{◌≡◌, ℕ, ◌≤◌, ◌&&◌, eqb, ◌⊎◌, List, [], ◌∷◌, ◌++◌, length, refl, inl, arith, length-append}
use Rattle.std.specs.List.{AllByRecursion}
use Rattle.std.proofs.ByRecursion.{All-append}
use Rattle.std.proofs.lemmas.Bool.{cond_both}
use Rattle.bus.specs.declared.frame.Frame.{Frame}
use Rattle.bus.specs.Frames.{is_command, message}
use Rattle.station.specs.declared.edge.Edge.{Edge}
use Rattle.module.specs.Designs.{Orderly, OnlyOwn}
use Rattle.module.specs.Memories.{memory_sent}
use Rattle.module.specs.Pushes.{bit, accepted, status_bytes, push_sent}
use Rattle.module.proofs.Sent.{one_at_most, memory_sends_one, all_one, all_memory}
use Rattle.timing.specs.Holds.{locked}
use Rattle.timing.specs.Times.{Time}
use Rattle.interface.specs.declared.variant.Variant.{Variant}
use Rattle.interface.specs.declared.setup.InterfaceSetup.{InterfaceSetup}
use Rattle.interface.specs.Channels.{hold_on, locked_bits}
use Rattle.interface.specs.Interfaces.{status_sent, type_sent, clock_sent, command_sent, pushed_sent, setup_bytes, design}
use Rattle.interface.specs.States.{State, decoded}

-- P holds of each form of frame that an interface sends: a cell and a block of the memory, status, type, time, button
pub record Forms (P : Frame → Type 0) (own : ℕ) : Type 0 where
  pub cell : (h l b : ℕ) → P (message 3 own (0xFE ∷ h ∷ l ∷ b ∷ []))
  pub block : (h l a b c d : ℕ) → P (message 3 own (0xCC ∷ h ∷ l ∷ a ∷ b ∷ c ∷ d ∷ []))
  pub status : (a b : ℕ) → P (message 3 own (0xED ∷ a ∷ 0xFF ∷ 0xFF ∷ b ∷ 0 ∷ 0 ∷ []))
  pub type : (code a b c d e : ℕ) → P (message 3 own (0xFF ∷ code ∷ a ∷ b ∷ c ∷ d ∷ e ∷ []))
  pub button : (edge : Edge) (b : ℕ) → P (message 0 own (status_bytes edge b))

module _ (P : Frame → Type 0) (v : Variant) (s : InterfaceSetup) (own : ℕ) (t : Forms P own) where
  pub all_clock : (x : Time) (f : Frame) → P (message 3 own (0xD8 ∷ x.day ∷ x.hour ∷ x.minute ∷ [])) → AllByRecursion P (clock_sent own x f)
  all_clock x f p = all_one P (is_command 0xD7 1 f) _ p

  pub all_command : (cells : List ℕ) (x : State) (f : Frame) → P (message 3 own (0xD8 ∷ x.clock.day ∷ x.clock.hour ∷ x.clock.minute ∷ [])) → AllByRecursion P (command_sent v s own cells x f)
  all_command cells x f p =
      All-append P (memory_sent own cells f) (status_sent own x f ++ (type_sent v s own f ++ clock_sent own x.clock f))
      (all_memory P own cells f (t.cell _ _ _) (t.block _ _ _ _ _ _))
      (All-append P (status_sent own x f) (type_sent v s own f ++ clock_sent own x.clock f)
      (all_one P (is_command 0xFA 2 f) _ (t.status x.pressed (locked_bits 1 x.holds)))
      (All-append P (type_sent v s own f) (clock_sent own x.clock f)
      (all_one P (eqb f.rtr 1 && eqb f.count 0) _ (t.type v.code s.serial.high s.serial.low s.map s.year s.week))
      (all_clock x.clock f p)))

  pub all_pushed : (x : State) (channel : ℕ) (edge : Edge) → AllByRecursion P (pushed_sent v own x channel edge)
  all_pushed x channel edge =
      cond_both (locked (hold_on x.holds channel)) [] (push_sent own v.buttons x.pressed channel edge) (AllByRecursion P) (λ _. tt)
      (λ _. all_one P (accepted v.buttons x.pressed channel edge) _ (t.button edge (bit channel)))

-- a frame bears the own address
abbrev Bears : ℕ → Frame → Type 0
Bears own f = (f.address ≡ own) ⊎ OnlyOwn f.address

own_forms : (own : ℕ) → Forms (Bears own) own
own_forms own =
    record { cell = λ h l b. inl refl; block = λ h l a b c d. inl refl; status = λ a b. inl refl; type = λ code a b c d e. inl refl; button = λ edge b. inl refl }

four_sent : (v : Variant) (s : InterfaceSetup) (own : ℕ) (cells : List ℕ) (x : State) (f : Frame) → length (command_sent v s own cells x f) ≤ 4
four_sent v s own cells x f =
    let told = status_sent own x f in
    let typed = type_sent v s own f in
    let timed = clock_sent own x.clock f in
    omega (
      arith,
      length-append (memory_sent own cells f) (told ++ (typed ++ timed)),
      length-append told (typed ++ timed),
      length-append typed timed,
      memory_sends_one own cells f,
      one_at_most (is_command 0xFA 2 f) (message 3 own (0xED ∷ x.pressed ∷ 0xFF ∷ 0xFF ∷ locked_bits 1 x.holds ∷ 0 ∷ 0 ∷ [])),
      one_at_most (eqb f.rtr 1 && eqb f.count 0) (message 3 own (0xFF ∷ v.code ∷ setup_bytes s)),
      one_at_most (is_command 0xD7 1 f) (message 3 own (0xD8 ∷ x.clock.day ∷ x.clock.hour ∷ x.clock.minute ∷ [])),
    )

pub interface_orderly : (v : Variant) (s : InterfaceSetup) → Orderly (design v s)
interface_orderly v s =
    record {
      small = omega arith;
      command = λ own r f.
          let x = decoded r.state in
          record {
            nine = omega (arith, four_sent v s own r.cells x f);
            bears = all_command (Bears own) v s own (own_forms own) r.cells x f (inl refl);
            keeps = refl;
          };
      broadcast = λ own r f.
          let x = decoded r.state in
          record {
            nine = omega (arith, one_at_most (is_command 0xD7 1 f) (message 3 own (0xD8 ∷ x.clock.day ∷ x.clock.hour ∷ x.clock.minute ∷ [])));
            bears = all_clock (Bears own) v s own (own_forms own) x.clock f (inl refl);
            keeps = refl;
          };
      status = λ own r f. record { nine = omega arith; bears = tt; keeps = refl };
      second = λ own r. record { nine = omega arith; bears = tt; keeps = refl };
      push = λ own r channel edge.
          let x = decoded r.state in
          record {
            nine =
                cond_both (locked (hold_on x.holds channel)) [] (push_sent own v.buttons x.pressed channel edge) (λ t. length t ≤ 9) (λ _. omega arith)
                (λ _. omega (arith, one_at_most (accepted v.buttons x.pressed channel edge) (message 0 own (status_bytes edge (bit channel)))));
            bears = all_pushed (Bears own) v s own (own_forms own) x channel edge;
            keeps = refl;
          };
    }
