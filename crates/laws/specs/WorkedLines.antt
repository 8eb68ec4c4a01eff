-- Examples worked out by hand, as claims about the definitions. Assumes nothing.
use Rattle.std.specs.Prelude.{◌≡◌, ℕ, ◌/◌, ◌%◌, List, [], ◌∷◌, length, Some}
use Rattle.bus.specs.declared.frame.Frame.{Frame}
use Rattle.bus.specs.Frames.{message}
use Rattle.station.specs.declared.event.Event.TheVariants.{Heard}
use Rattle.station.specs.Kinds.{Record, Kind, Outcome}
use Rattle.station.specs.Rules.{put}
use Rattle.timing.specs.TimeCodes.{seconds_of_code}
use Rattle.panel.specs.declared.panel.PanelSetup.{PanelSetup}
use Rattle.relay.specs.declared.relay.RelaySetup.{RelaySetup}
use Rattle.kinds.specs.Kinds.{relay_kind, panel_kind}

-- the write of four bytes from a cell on
abbrev pub block_write : ℕ → ℕ → List ℕ → Frame
block_write own cell bs = message 3 own (0xCA ∷ cell / 256 ∷ cell % 256 ∷ bs)

-- what comes of such a write at the own address of a module of the kind, whose memory has the kind's size
abbrev pub AtEveryWrite : Kind → ℕ → (Record → List ℕ → Outcome → Type 0) → Type 0
AtEveryWrite k cell What =
    (own : ℕ) (r : Record) (a b c d : ℕ) → length r.cells ≡ k.memory →
    What r (a ∷ b ∷ c ∷ d ∷ []) (k.acts own r (Heard (block_write own cell (a ∷ b ∷ c ∷ d ∷ []))))

-- the bytes are put in
abbrev pub Fits : Kind → ℕ → Type 0
Fits k cell = AtEveryWrite k cell (λ r bs o. o.after.cells ≡ put r.cells cell bs)

-- the cells stay and nothing is sent
abbrev pub DoesNotFit : Kind → ℕ → Type 0
DoesNotFit k cell = AtEveryWrite k cell (λ r bs o. (o.after.cells ≡ r.cells) × (o.sent ≡ []))

-- a line: a time code and its seconds; a cell from which on four bytes fit a relay, or a panel, and one where not
pub data Line : Type 0 where
  code : (number seconds : ℕ) → Line
  fits_relay : (cell : ℕ) → Line
  fits_panel : (cell : ℕ) → Line
  not_relay : (cell : ℕ) → Line
  not_panel : (cell : ℕ) → Line

-- what a line claims
abbrev pub Claim : Line → Type 0
Claim (code n s) = seconds_of_code n ≡ Some s
Claim (fits_relay cell) = (s : RelaySetup) → Fits (relay_kind s) cell
Claim (fits_panel cell) = (s : PanelSetup) → Fits (panel_kind s) cell
Claim (not_relay cell) = (s : RelaySetup) → DoesNotFit (relay_kind s) cell
Claim (not_panel cell) = (s : PanelSetup) → DoesNotFit (panel_kind s) cell

abbrev pub worked_lines : List Line
worked_lines =
    code 119 119 ∷ code 120 120 ∷ code 131 285 ∷ code 182 1800 ∷ code 251 82800
    ∷ fits_relay 0x03FC ∷ fits_panel 0x00FC ∷ not_relay 0x03FD ∷ not_panel 0x00FD ∷ []
