-- What follows of a frame's being a command. Assumes nothing.
use Rattle.std.proofs.Common.{◌≡◌, ℕ, true, false, ◌&&◌, eqb, ap, ◌∙◌}
use Rattle.std.proofs.lemmas.Bool.{and_parts, and_left, eqb-true}
use Rattle.bus.specs.declared.frame.Frame.{Frame}
use Rattle.bus.specs.Frames.{byte, is_command}

-- a frame that is one command is no other
pub other_command : (code n : ℕ) (f : Frame) → is_command code n f ≡ true → (c m : ℕ) → eqb code c ≡ false → is_command c m f ≡ false
other_command code n f w c m e =
    let same : byte f 0 ≡ code = eqb-true _ _ (and_parts (eqb (byte f 0) code) (eqb f.rtr 0 && eqb f.count n) w).0 in
    and_left (eqb (byte f 0) c) (eqb f.rtr 0 && eqb f.count m) (ap (λ b. eqb b c) same ∙ e)
