use Rattle.button_laws.proofs.StatusBits.{status_is_told}
use Rattle.button_laws.proofs.Replies.{type_is_told}
use Rattle.button_laws.proofs.module_status_laws.Goals as goal

pub returns : goal.returns
returns c = record { status_is_told = status_is_told; type_is_told = type_is_told }
