use Rattle.std.proofs.Common.{◌∷◌, take}
use Rattle.std.specs.Io.KnownBytes.{Appends}
use Rattle.std.specs.List.{flat_map}
use Rattle.hextext.specs.Lines.{digits}
use Rattle.hextext.proofs.writing.write_line.Given as goal

-- the bytes so far were written after the first
abbrev pub invariant-loop-byte : goal.invariant-loop-byte
invariant-loop-byte g l = Appends (g.W.Write.contents l.initial.out) (g.W.Write.contents l.out) (flat_map (λ x. 32 ∷ digits x) (take l.byte-index l.rest))
