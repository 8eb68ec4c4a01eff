use Rattle.module_laws.proofs.InterfaceLocks.{locks_obeyed, seconds_count}
use Rattle.module_laws.proofs.InterfaceTimes.{holds_run}
use Rattle.module_laws.proofs.interface_lock_laws.Goals as goal

pub returns : goal.returns
returns c = record { lock_commands = locks_obeyed; seconds = seconds_count; times = holds_run }
