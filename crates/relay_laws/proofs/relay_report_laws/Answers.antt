use Rattle.relay_laws.proofs.RelayReports.{reports_exactly}
use Rattle.relay_laws.proofs.relay_report_laws.Goals as goal

pub returns : goal.returns
returns c = record { reports = reports_exactly }
