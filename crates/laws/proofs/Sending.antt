-- The frames that modules send are well formed, and no writes. Assumes nothing.
use Rattle.std.proofs.Common.{ℕ, ◌&&◌, eqb, [], ◌∷◌, ◌++◌, refl}
use Rattle.std.specs.List.{AllByRecursion}
use Rattle.std.proofs.ByRecursion.{All-append, All-weaker}
use Rattle.bus.specs.declared.frame.Frame.{Frame}
use Rattle.bus.specs.Frames.{is_command, message}
use Rattle.station.specs.declared.edge.Edge.{Edge}
use Rattle.station.specs.declared.edge.Edge.TheVariants.{Press, Release, LongPress}
use Rattle.station.specs.declared.event.Event.TheVariants.{Heard, Second, Pushed}
use Rattle.station.specs.Kinds.{Record}
use Rattle.module.specs.Memories.{memory_sent}
use Rattle.module.specs.Pushes.{bit, accepted, status_bytes}
use Rattle.module.proofs.Sent.{all_one, all_memory}
use Rattle.interface.specs.declared.setup.InterfaceSetup.{InterfaceSetup}
use Rattle.interface.specs.States.{decoded}
use Rattle.interface.proofs.Orderly.{all_clock}
use Rattle.interface.proofs.Orderly.{Forms as InterfaceForms, all_command as interface_command, all_pushed as interface_pushed}
use Rattle.buttons.specs.Buttons.{variant}
use Rattle.buttons.specs.Buttons.{design as buttons_design}
use Rattle.panel.specs.declared.panel.PanelSetup.{PanelSetup}
use Rattle.panel.specs.Panels.{lamps, pressed, status_sent, type_sent}
use Rattle.panel.specs.Panels.{design as panel_design}
use Rattle.relay.specs.declared.relay.RelaySetup.{RelaySetup}
use Rattle.relay.specs.Relays.{design as relay_design}
use Rattle.relay.specs.AllSent.{Forms, Lamps, all_command, all_status, all_second}
use Rattle.kinds.specs.Kinds.{relay_kind, panel_kind, buttons_kind, EveryModule}
use Rattle.laws.specs.Sending.{SendsOnly, WellFormed, NoWrite}
use Rattle.module.proofs.Answered.{all_heard, all_pushed}

-- P holds of each form of frame that a panel sends
pub record PanelForms (P : Frame → Type 0) (own : ℕ) : Type 0 where
  pub cell : (h l b : ℕ) → P (message 3 own (0xFE ∷ h ∷ l ∷ b ∷ []))
  pub block : (h l a b c d : ℕ) → P (message 3 own (0xCC ∷ h ∷ l ∷ a ∷ b ∷ c ∷ d ∷ []))
  pub status : (a b c d : ℕ) → P (message 3 own (0xED ∷ a ∷ b ∷ c ∷ d ∷ 0 ∷ []))
  pub type : (a b c d e : ℕ) → P (message 3 own (0xFF ∷ 0x0B ∷ a ∷ b ∷ c ∷ d ∷ e ∷ 0 ∷ []))
  pub button : (edge : Edge) (b : ℕ) → P (message 0 own (status_bytes edge b))

module _ (P : Frame → Type 0) where
  pub all_relay : (s : RelaySetup) → ((own : ℕ) → Forms P own) → ((a : ℕ) → Lamps P a) → SendsOnly P (relay_kind s)
  all_relay s t l own r (Heard f) =
      all_heard (relay_design s) own r P f (all_command P own (t own) r f) tt (λ _. all_status P s own (t own) r f (l f.address))
  all_relay s t l own r Second = all_second P own (t own) r
  all_relay s t l own r (Pushed p) = all_pushed (relay_design s) own r P p tt

  pub all_panel_command : (s : PanelSetup) (own : ℕ) → PanelForms P own → (r : Record) (f : Frame) → AllByRecursion P ((panel_design s).command own r f).sent
  all_panel_command s own t r f =
      let l = lamps r in
      All-append P (memory_sent own r.cells f) (status_sent own l (pressed r) f ++ type_sent own s l f)
      (all_memory P own r.cells f (t.cell _ _ _) (t.block _ _ _ _ _ _))
      (All-append P (status_sent own l (pressed r) f) (type_sent own s l f)
      (all_one P (is_command 0xFA 2 f) _ (t.status (pressed r) l.on l.slow l.fast))
      (all_one P (eqb f.rtr 1 && eqb f.count 0) _ (t.type l.on l.slow l.fast s.year s.week)))

  pub all_panel : (s : PanelSetup) → ((own : ℕ) → PanelForms P own) → SendsOnly P (panel_kind s)
  all_panel s t own r (Heard f) = all_heard (panel_design s) own r P f (all_panel_command s own (t own) r f) tt (λ _. tt)
  all_panel s t own r Second = tt
  all_panel s t own r (Pushed p) =
      all_pushed (panel_design s) own r P p
      (all_one P (accepted 8 (pressed r) p.channel p.edge) _ ((t own).button p.edge (bit p.channel)))

  pub all_buttons : (s : InterfaceSetup) → ((own : ℕ) → InterfaceForms P own) → ((own a b c : ℕ) → P (message 3 own (0xD8 ∷ a ∷ b ∷ c ∷ []))) → SendsOnly P (buttons_kind s)
  all_buttons s t clock own r (Heard f) =
      let x = decoded r.state in
      let time = clock own x.clock.day x.clock.hour x.clock.minute in
      all_heard (buttons_design s) own r P f (interface_command P variant s own (t own) r.cells x f time) (all_clock P variant s own (t own) x.clock f time) (λ _. tt)
  all_buttons s t clock own r Second = tt
  all_buttons s t clock own r (Pushed p) =
      all_pushed (buttons_design s) own r P p (interface_pushed P variant s own (t own) (decoded r.state) p.channel p.edge)

-- the frame is well formed, and no write
abbrev Sound : Frame → Type 0
Sound f = WellFormed f × NoWrite f

sound_edge : (own : ℕ) (edge : Edge) (b : ℕ) → Sound (message 0 own (status_bytes edge b))
sound_edge own Press b = (refl, refl)
sound_edge own Release b = (refl, refl)
sound_edge own LongPress b = (refl, refl)

every_sound : EveryModule (SendsOnly Sound)
every_sound =
    record {
      relay = λ s.
          all_relay Sound s
          (λ own. record { cell = λ h l b. (refl, refl); block = λ h l a b c d. (refl, refl); channel = λ bit s a b c. (refl, refl); switch = λ on off. (refl, refl) })
          (λ a. record { on = λ bits. (refl, refl); out = λ bits. (refl, refl) });
      panel = λ s.
          all_panel Sound s
          (λ own. record { cell = λ h l b. (refl, refl); block = λ h l a b c d. (refl, refl); status = λ a b c d. (refl, refl); type = λ a b c d e. (refl, refl); button = sound_edge own });
      buttons = λ s.
          all_buttons Sound s
          (λ own. record { cell = λ h l b. (refl, refl); block = λ h l a b c d. (refl, refl); status = λ a b. (refl, refl); type = λ code a b c d e. (refl, refl); button = sound_edge own })
          (λ own a b c. (refl, refl));
    }

-- what follows of each frame follows of all
every_weaker : (P Q : Frame → Type 0) → ((f : Frame) → P f → Q f) → EveryModule (SendsOnly P) → EveryModule (SendsOnly Q)
every_weaker P Q weaker e =
    record {
      relay = λ s own r event. All-weaker P Q weaker _ (e.relay s own r event);
      panel = λ s own r event. All-weaker P Q weaker _ (e.panel s own r event);
      buttons = λ s own r event. All-weaker P Q weaker _ (e.buttons s own r event);
    }

pub every_well_formed : EveryModule (SendsOnly WellFormed)
every_well_formed = every_weaker Sound WellFormed (λ f h. h.0) every_sound

pub every_no_write : EveryModule (SendsOnly NoWrite)
every_no_write = every_weaker Sound NoWrite (λ f h. h.1) every_sound
