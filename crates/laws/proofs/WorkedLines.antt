-- The worked lines hold. Assumes nothing.
use Rattle.std.proofs.Common.{◌≡◌, ℕ, ◌+◌, ◌*◌, ◌/◌, ◌%◌, ◌<◌, ◌≤◌, [], ◌∷◌, refl, ap, ◌∙◌, arith}
use Rattle.std.specs.List.{AllByRecursion}
use Rattle.std.proofs.ByRecursion.{All-append}
use Rattle.station.specs.Kinds.{Kind}
use Rattle.station.specs.Rules.{put}
use Rattle.laws.specs.Blocks.{TakesBlockWrites}
use Rattle.kinds.specs.Kinds.{relay_kind, panel_kind}
use Rattle.laws.specs.WorkedLines.{fits_relay, fits_panel, not_relay, not_panel, block_write, Fits, DoesNotFit, worked_lines, Claim}
use Rattle.laws.proofs.Blocks.{every_takes_block_writes}

pub fits : (k : Kind) → TakesBlockWrites k → (cell : ℕ) → cell / 256 * 256 + cell % 256 ≡ cell → cell + 4 ≤ k.memory → Fits k cell
fits k law cell same h own r a b c d size =
    (law own r (block_write own cell (a ∷ b ∷ c ∷ d ∷ [])) refl refl).stores (omega arith) ∙ ap (λ n. put r.cells n (a ∷ b ∷ c ∷ d ∷ [])) same

pub does_not_fit : (k : Kind) → TakesBlockWrites k → (cell : ℕ) → cell / 256 * 256 + cell % 256 ≡ cell → k.memory < cell + 4 → DoesNotFit k cell
does_not_fit k law cell same h own r a b c d size =
    let w = law own r (block_write own cell (a ∷ b ∷ c ∷ d ∷ [])) refl refl in (w.stores_none (omega arith), w.no_answer (omega arith))

pub worked_lines_hold : AllByRecursion Claim worked_lines
worked_lines_hold =
    let law = every_takes_block_writes in
    let inside : AllByRecursion Claim (fits_relay 0x03FC ∷ fits_panel 0x00FC ∷ []) =
    ((λ s. fits (relay_kind s) (law.relay s) 0x03FC refl (omega arith)), ((λ s. fits (panel_kind s) (law.panel s) 0x00FC refl (omega arith)), tt)) in
    let past : AllByRecursion Claim (not_relay 0x03FD ∷ not_panel 0x00FD ∷ []) =
    ((λ s. does_not_fit (relay_kind s) (law.relay s) 0x03FD refl (omega arith)), ((λ s. does_not_fit (panel_kind s) (law.panel s) 0x00FD refl (omega arith)), tt)) in
    (refl, (refl, (refl, (refl, (refl, All-append Claim (fits_relay 0x03FC ∷ fits_panel 0x00FC ∷ []) (not_relay 0x03FD ∷ not_panel 0x00FD ∷ []) inside past)))))
