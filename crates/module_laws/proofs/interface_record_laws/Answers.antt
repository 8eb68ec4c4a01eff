use Rattle.module_laws.proofs.InterfaceCells.{other_cells_ignored}
use Rattle.module_laws.proofs.InterfaceRecords.{records_obeyed, one_last_hold, records_link}
use Rattle.module_laws.proofs.interface_record_laws.Goals as goal

pub returns : goal.returns
returns c = record { record_actions = records_obeyed; one_last_hold = one_last_hold; links = records_link; other_cells = other_cells_ignored }
