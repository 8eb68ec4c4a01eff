use Rattle.laws.proofs.Sending.{every_well_formed, every_no_write}
use Rattle.laws.proofs.sending_laws.Goals as goal

pub returns : goal.returns
returns c = record { well_formed = every_well_formed; no_write = every_no_write }
