-- With what priority and from whom modules send and hear, and how large they are. Assumes nothing.
use Rattle.std.proofs.Common.{◌≡◌, ℕ, ◌<◌, List, ◌∷◌, [], refl, arith}
use Rattle.bus.specs.declared.frame.Frame.{Frame}
use Rattle.bus.specs.Frames.{message}
use Rattle.station.specs.declared.edge.Edge.{Edge}
use Rattle.station.specs.declared.edge.Edge.TheVariants.{Press, Release, LongPress}
use Rattle.station.specs.declared.event.Event.TheVariants.{Heard, Second, Pushed}
use Rattle.module.specs.Pushes.{accepted, status_bytes}
use Rattle.module.proofs.Answered.{all_heard, all_pushed}
use Rattle.module.proofs.Sent.{all_one}
use Rattle.interface.specs.States.{decoded}
use Rattle.interface.proofs.Orderly.{Forms as InterfaceForms, all_clock, all_command as interface_command, all_pushed as interface_pushed}
use Rattle.buttons.specs.Buttons.{variant}
use Rattle.buttons.specs.Buttons.{design as buttons_design}
use Rattle.panel.specs.Panels.{pressed}
use Rattle.panel.specs.Panels.{design as panel_design}
use Rattle.kinds.specs.Kinds.{EveryPanel, EveryButtonInterface, EveryModule}
use Rattle.laws.proofs.Sending.{PanelForms, all_relay, all_panel_command, all_panel, all_buttons}
use Rattle.module_laws.specs.AllSent.{HasHeader, SendsWithHeader, SendsAsItself, HearsAnyPriority, AllButRelays, Sizes}

-- what does not begin with 00
headed : (code a : ℕ) (bs : List ℕ) → 0 < code → HasHeader (message 3 a (code ∷ bs))
headed code a bs h = record { highest = λ e. absurd (omega (arith, e)); lowest = λ _. refl; rtr = refl }

-- a button status
headed_edge : (own : ℕ) (edge : Edge) (b : ℕ) → HasHeader (message 0 own (status_bytes edge b))
headed_edge own Press b = record { highest = λ _. refl; lowest = λ n. absurd (n refl); rtr = refl }
headed_edge own Release b = record { highest = λ _. refl; lowest = λ n. absurd (n refl); rtr = refl }
headed_edge own LongPress b = record { highest = λ _. refl; lowest = λ n. absurd (n refl); rtr = refl }

pub sends_headed : EveryModule SendsWithHeader
sends_headed =
    record {
      relay = λ s.
          all_relay HasHeader s
          (λ own.
          record {
            cell = λ h l b. headed 0xFE own (h ∷ l ∷ b ∷ []) (omega arith);
            block = λ h l a b c d. headed 0xCC own (h ∷ l ∷ a ∷ b ∷ c ∷ d ∷ []) (omega arith);
            channel = λ bit s a b c. headed 0xFB own (bit ∷ 0 ∷ s ∷ 0 ∷ a ∷ b ∷ c ∷ []) (omega arith);
            switch = λ on off. record { highest = λ _. refl; lowest = λ n. absurd (n refl); rtr = refl };
          })
          (λ a. record { on = λ bits. headed 0xF6 a (bits ∷ []) (omega arith); out = λ bits. headed 0xF5 a (bits ∷ []) (omega arith) });
      panel = λ s.
          all_panel HasHeader s
          (λ own.
          record {
            cell = λ h l b. headed 0xFE own (h ∷ l ∷ b ∷ []) (omega arith);
            block = λ h l a b c d. headed 0xCC own (h ∷ l ∷ a ∷ b ∷ c ∷ d ∷ []) (omega arith);
            status = λ a b c d. headed 0xED own (a ∷ b ∷ c ∷ d ∷ 0 ∷ []) (omega arith);
            type = λ a b c d e. headed 0xFF own (0x0B ∷ a ∷ b ∷ c ∷ d ∷ e ∷ 0 ∷ []) (omega arith);
            button = headed_edge own;
          });
      buttons = λ s.
          all_buttons HasHeader s
          (λ own.
          record {
            cell = λ h l b. headed 0xFE own (h ∷ l ∷ b ∷ []) (omega arith);
            block = λ h l a b c d. headed 0xCC own (h ∷ l ∷ a ∷ b ∷ c ∷ d ∷ []) (omega arith);
            status = λ a b. headed 0xED own (a ∷ 0xFF ∷ 0xFF ∷ b ∷ 0 ∷ 0 ∷ []) (omega arith);
            type = λ code a b c d e. headed 0xFF own (code ∷ a ∷ b ∷ c ∷ d ∷ e ∷ []) (omega arith);
            button = headed_edge own;
          })
          (λ own a b c. headed 0xD8 own (a ∷ b ∷ c ∷ []) (omega arith));
    }

abbrev Own : ℕ → Frame → Type 0
Own own g = g.address ≡ own

panel_forms : (own : ℕ) → PanelForms (Own own) own
panel_forms own =
    record { cell = λ h l b. refl; block = λ h l a b c d. refl; status = λ a b c d. refl; type = λ a b c d e. refl; button = λ edge b. refl }

interface_forms : (own : ℕ) → InterfaceForms (Own own) own
interface_forms own =
    record { cell = λ h l b. refl; block = λ h l a b c d. refl; status = λ a b. refl; type = λ code a b c d e. refl; button = λ edge b. refl }

panel_as_itself : EveryPanel SendsAsItself
panel_as_itself s own r (Heard f) = all_heard (panel_design s) own r (Own own) f (all_panel_command (Own own) s own (panel_forms own) r f) tt (λ _. tt)
panel_as_itself s own r Second = tt
panel_as_itself s own r (Pushed p) = all_pushed (panel_design s) own r (Own own) p (all_one (Own own) (accepted 8 (pressed r) p.channel p.edge) _ refl)

interface_as_itself : EveryButtonInterface SendsAsItself
interface_as_itself s own r (Heard f) =
    let x = decoded r.state in
    all_heard (buttons_design s) own r (Own own) f (interface_command (Own own) variant s own (interface_forms own) r.cells x f refl)
    (all_clock (Own own) variant s own (interface_forms own) x.clock f refl) (λ _. tt)
interface_as_itself s own r Second = tt
interface_as_itself s own r (Pushed p) =
    all_pushed (buttons_design s) own r (Own own) p (interface_pushed (Own own) variant s own (interface_forms own) (decoded r.state) p.channel p.edge)

pub send_as_themselves : AllButRelays SendsAsItself
send_as_themselves = record { panel = panel_as_itself; buttons = interface_as_itself }

pub sizes : Sizes
sizes = record { relay = λ s. (refl, refl); panel = λ s. (refl, refl); buttons = λ s. (refl, refl) }

pub hear_any_priority : EveryModule HearsAnyPriority
hear_any_priority = record { relay = λ s own r p f. refl; panel = λ s own r p f. refl; buttons = λ s own r p f. refl }
