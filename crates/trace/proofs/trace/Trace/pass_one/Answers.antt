use Rattle.std.proofs.Common.{◌∙◌, arith}
use Rattle.trace.proofs.Steps.{steps_none}
use Rattle.trace.proofs.trace.Trace.pass_one.Goals as goal

pub returns-in_err-sent : goal.returns-in_err-sent
returns-in_err-sent g c = (0, omega arith, c.nth_second.ensures ∙ steps_none _)
