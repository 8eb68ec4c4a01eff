use Rattle.laws.proofs.LampModes.{lamps_obey, lamps_are_set}
use Rattle.laws.proofs.mode_laws.Goals as goal

pub returns : goal.returns
returns c = record { lamps_obey = lamps_obey; lamps_are_set = lamps_are_set }
