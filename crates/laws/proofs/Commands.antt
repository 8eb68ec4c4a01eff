-- What modules do on a memory command is what their memories do. Assumes nothing.
use Rattle.std.proofs.Common.{◌≡◌, ℕ, true, false, ◌&&◌, eqb, [], ◌++◌, None, refl, ap, ◌∙◌}
use Rattle.std.proofs.lemmas.List.{append-nil}
use Rattle.std.proofs.lemmas.Bool.{cond-false, and_parts, and_left, eqb-true}
use Rattle.bus.specs.declared.frame.Frame.{Frame}
use Rattle.bus.specs.Frames.{byte, is_command}
use Rattle.bus.proofs.Commands.{other_command}
use Rattle.station.specs.Kinds.{Record, Kind}
use Rattle.station.specs.Rules.{stored}
use Rattle.module.specs.Designs.{Design, designed}
use Rattle.module.specs.Memories.{memory_sent}
use Rattle.panel.specs.declared.panel.PanelSetup.{PanelSetup}
use Rattle.interface.specs.declared.setup.InterfaceSetup.{InterfaceSetup}
use Rattle.interface.specs.Interfaces.{clock_sent}
use Rattle.interface.specs.Interfaces.{status_sent as interface_status, type_sent as interface_type}
use Rattle.interface.specs.States.{decoded}
use Rattle.buttons.specs.Buttons.{variant}
use Rattle.buttons.specs.Buttons.{design as buttons_design}
use Rattle.panel.specs.Panels.{lamps, pressed, status_sent, type_sent}
use Rattle.panel.specs.Panels.{design as panel_design}
use Rattle.relay.specs.declared.relay.RelaySetup.{RelaySetup}
use Rattle.relay.specs.Relays.{contacts, commanded, named_channels, carried_out, answer}
use Rattle.relay.specs.Relays.{design as relay_design}
use Rattle.relay.specs.Reports.{made}
use Rattle.relay.proofs.Unchanged.{same_unreported}
use Rattle.kinds.specs.Kinds.{EveryModule}

-- a frame that asks for no status, no type and no time, and names no channel
pub record MemoryOnly (f : Frame) : Type 0 where
  pub no_status : is_command 0xFA 2 f ≡ false
  pub no_type : eqb f.rtr 1 ≡ false
  pub no_time : is_command 0xD7 1 f ≡ false
  pub no_action : commanded f ≡ None

pub memory_only : (code n : ℕ) (f : Frame) → is_command code n f ≡ true → eqb code 0xFA ≡ false → eqb code 0xD7 ≡ false → eqb code 0x01 ≡ false → eqb code 0x02 ≡ false → eqb code 0x03 ≡ false → MemoryOnly f
memory_only code n f w status time clear set start =
    let zero_rtr = (and_parts (eqb f.rtr 0) (eqb f.count n) (and_parts (eqb (byte f 0) code) (eqb f.rtr 0 && eqb f.count n) w).1).0 in
    record {
      no_status = other_command code n f w 0xFA 2 status;
      no_type = ap (λ b. eqb b 1) (eqb-true f.rtr 0 zero_rtr);
      no_time = other_command code n f w 0xD7 1 time;
      no_action =
          cond-false (is_command 0x01 2 f) _ _ (other_command code n f w 0x01 2 clear)
          ∙ (cond-false (is_command 0x02 2 f) _ _ (other_command code n f w 0x02 2 set) ∙ cond-false (is_command 0x03 5 f) _ _ (other_command code n f w 0x03 5 start));
    }

-- on such a frame a design sends what its memory does; on any it stores what a frame writes
pub record ByMemory (d : Design) : Type 0 where
  pub sends : (own : ℕ) (r : Record) (f : Frame) → MemoryOnly f → (d.command own r f).sent ≡ memory_sent own r.cells f
  pub stores : (own : ℕ) (r : Record) (f : Frame) → (d.command own r f).after.cells ≡ stored r.cells f

pub relay_by_memory : (s : RelaySetup) → ByMemory (relay_design s)
relay_by_memory s =
    record {
      sends = λ own r f m.
          let x = contacts r in
          let quiet : answer own f (made x) (carried_out (commanded f) (named_channels f) x) ≡ [] =
          ap (λ a. answer own f (made x) (carried_out a (named_channels f) x)) m.no_action
          ∙ (cond-false (is_command 0xFA 2 f) _ _ m.no_status ∙ same_unreported own x) in
          ap (λ t. memory_sent own r.cells f ++ t) quiet ∙ append-nil (memory_sent own r.cells f);
      stores = λ own r f. refl;
    }

pub panel_by_memory : (s : PanelSetup) → ByMemory (panel_design s)
panel_by_memory s =
    record {
      sends = λ own r f m.
          let quiet : status_sent own (lamps r) (pressed r) f ++ type_sent own s (lamps r) f ≡ [] =
          ap (λ t. t ++ type_sent own s (lamps r) f) (cond-false (is_command 0xFA 2 f) _ _ m.no_status)
          ∙ cond-false (eqb f.rtr 1 && eqb f.count 0) _ _ (and_left (eqb f.rtr 1) (eqb f.count 0) m.no_type) in
          ap (λ t. memory_sent own r.cells f ++ t) quiet ∙ append-nil (memory_sent own r.cells f);
      stores = λ own r f. refl;
    }

pub buttons_by_memory : (s : InterfaceSetup) → ByMemory (buttons_design s)
buttons_by_memory s =
    record {
      sends = λ own r f m.
          let x = decoded r.state in
          let quiet : interface_status own x f ++ (interface_type variant s own f ++ clock_sent own x.clock f) ≡ [] =
          ap (λ t. t ++ (interface_type variant s own f ++ clock_sent own x.clock f)) (cond-false (is_command 0xFA 2 f) _ _ m.no_status)
          ∙ (ap (λ t. t ++ clock_sent own x.clock f) (cond-false (eqb f.rtr 1 && eqb f.count 0) _ _ (and_left (eqb f.rtr 1) (eqb f.count 0) m.no_type))
          ∙ cond-false (is_command 0xD7 1 f) _ _ m.no_time) in
          ap (λ t. memory_sent own r.cells f ++ t) quiet ∙ append-nil (memory_sent own r.cells f);
      stores = λ own r f. refl;
    }

-- what follows for a design of its doing as its memory does follows for each module
pub every_by_memory : (Law : Kind → Type 0) → ((d : Design) → ByMemory d → Law (designed d)) → EveryModule Law
every_by_memory Law by =
    record {
      relay = λ s. by (relay_design s) (relay_by_memory s);
      panel = λ s. by (panel_design s) (panel_by_memory s);
      buttons = λ s. by (buttons_design s) (buttons_by_memory s);
    }
