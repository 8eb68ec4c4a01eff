use Rattle.std.proofs.Common.{◌+◌, arith}
use Rattle.trace.proofs.Steps.{steps_none, steps_more}
use Rattle.trace.proofs.trace.Trace.settle.Goals as goal

pub loop-init : goal.loop-init
loop-init g c = steps_none _

pub loop-preserved : goal.loop-preserved
loop-preserved g c = steps_more _ _ _ _ c.loop.invariant c.step.ensures

pub returns-in_err-step-clause-led : goal.returns-in_err-step-clause-led
returns-in_err-step-clause-led g c = (c.loop.counter + 1, omega arith, steps_more _ _ _ _ c.loop.invariant c.step.ensures)
