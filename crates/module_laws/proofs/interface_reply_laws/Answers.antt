use Rattle.module_laws.proofs.InterfaceReplies.{status_told, type_told, time_told, silent_else}
use Rattle.module_laws.proofs.interface_reply_laws.Goals as goal

pub returns : goal.returns
returns c = record { status = status_told; type_request = type_told; time = time_told; silent_else = silent_else }
