use Rattle.module_laws.proofs.InterfaceClock.{clock_set, clock_moves}
use Rattle.module_laws.proofs.interface_clock_laws.Goals as goal

pub returns : goal.returns
returns c = record { set = clock_set; moves = clock_moves }
