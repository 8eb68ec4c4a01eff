use Rattle.std.proofs.lemmas.Slice.Eq.{slice_eq-Decides}
use Rattle.pairing.proofs.Alike.{same_frame}
use Rattle.pairing.proofs.compare.same_frames.Goals as goal

pub returns : goal.returns
returns c = slice_eq-Decides same_frame _ _ _ c.eq.ensures
