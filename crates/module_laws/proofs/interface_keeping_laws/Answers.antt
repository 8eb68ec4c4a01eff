use Rattle.module_laws.proofs.InterfaceKeeps.{holds_kept, pressed_kept, lamps_kept, clock_kept}
use Rattle.module_laws.proofs.interface_keeping_laws.Goals as goal

pub returns : goal.returns
returns c = record { holds = holds_kept; pressed = pressed_kept; lamps = lamps_kept; clock = clock_kept }
