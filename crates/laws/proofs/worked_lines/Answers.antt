use Rattle.laws.proofs.WorkedLines.{worked_lines_hold}
use Rattle.laws.proofs.worked_lines.Goals as goal

pub returns : goal.returns
returns c = worked_lines_hold
