-- A frame that writes no cells leaves them as they are. Assumes nothing.
use Rattle.std.proofs.Common.{◌≡◌, ℕ, ◌+◌, false, List, [], length, leb, refl, ap, ◌∙◌}
use Rattle.std.proofs.lemmas.Bool.{cond_both, cond-false, or_parts}
use Rattle.bus.specs.declared.frame.Frame.{Frame}
use Rattle.bus.specs.Frames.{is_command}
use Rattle.station.specs.Rules.{cell, payload, put, stored}
use Rattle.module.specs.Memories.{writes}

pub stored_unwritten : (cells : List ℕ) (f : Frame) → writes f ≡ false → stored cells f ≡ cells
stored_unwritten cells f e =
    let apart = or_parts (is_command 0xFC 4 f) (is_command 0xCA 7 f) e in
    let none : payload f ≡ [] = cond-false (is_command 0xFC 4 f) _ _ apart.0 ∙ cond-false (is_command 0xCA 7 f) _ _ apart.1 in
    cond_both (leb (cell f + length (payload f)) (length cells)) (put cells (cell f) (payload f)) cells (λ t. t ≡ cells)
    (λ _. ap (put cells (cell f)) none) (λ _. refl)
