use Rattle.relay_laws.proofs.RelayCommands.{commands_obeyed}
use Rattle.relay_laws.proofs.relay_command_laws.Goals as goal

pub returns : goal.returns
returns c = record { commands = commands_obeyed }
