-- The kinds of module that there are, and their new seats. Assumes nothing.
use Rattle.std.specs.Prelude.{ℕ, replicate}
use Rattle.station.specs.Kinds.{Kind, Seat}
use Rattle.module.specs.Designs.{designed}
use Rattle.interface.specs.declared.setup.InterfaceSetup.{InterfaceSetup}
use Rattle.buttons.specs.Buttons.{design as buttons_design}
use Rattle.panel.specs.declared.panel.PanelSetup.{PanelSetup}
use Rattle.panel.specs.Panels.{design as panel_design}
use Rattle.relay.specs.declared.relay.RelaySetup.{RelaySetup}
use Rattle.relay.specs.Relays.{design as relay_design}

-- the kind of a relay
abbrev pub relay_kind : RelaySetup → Kind
relay_kind s = designed (relay_design s)

-- the kind of a panel
abbrev pub panel_kind : PanelSetup → Kind
panel_kind s = designed (panel_design s)

-- the kind of a button interface with eight buttons
abbrev pub buttons_kind : InterfaceSetup → Kind
buttons_kind s = designed (buttons_design s)

-- a law of kinds holds of each relay, whatever its setup
abbrev pub EveryRelay : (Kind → Type 0) → Type 0
EveryRelay Law = (s : RelaySetup) → Law (relay_kind s)

-- and of each panel
abbrev pub EveryPanel : (Kind → Type 0) → Type 0
EveryPanel Law = (s : PanelSetup) → Law (panel_kind s)

-- and of each button interface
abbrev pub EveryButtonInterface : (Kind → Type 0) → Type 0
EveryButtonInterface Law = (s : InterfaceSetup) → Law (buttons_kind s)

-- so it holds of each module of the three kinds
pub record EveryModule (Law : Kind → Type 0) : Type 0 where
  pub relay : EveryRelay Law
  pub panel : EveryPanel Law
  pub buttons : EveryButtonInterface Law

-- the seat of a new module: each cell holds 0xFF, and each of so many state bytes 0
abbrev pub new_seat : Kind → ℕ → ℕ → Seat
new_seat k address state_bytes =
    record { kind = k; address = address; content = record { cells = replicate k.memory 255; state = replicate state_bytes 0 } }
