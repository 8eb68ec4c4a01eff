use Rattle.worked.proofs.SeatsDenied.{seats_denied}
use Rattle.worked.proofs.GroupsDenied.{groups_denied}
use Rattle.worked.proofs.RunsDenied.{runs_denied}
use Rattle.worked.proofs.MemoryDenied.{memory_denied}
use Rattle.worked.proofs.IsolationDenied.{isolation_denied}
use Rattle.worked.proofs.definitions_deny.Goals as goal

pub returns : goal.returns
returns c = record { seats = seats_denied; groups = groups_denied; runs = runs_denied; memory = memory_denied; isolation = isolation_denied }
