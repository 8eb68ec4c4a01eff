use Rattle.module_laws.proofs.LampCommands.{lamps_put}
use Rattle.module_laws.proofs.lamp_command_laws.Goals as goal

pub returns : goal.returns
returns c = record { lamps = lamps_put }
