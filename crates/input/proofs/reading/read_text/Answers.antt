use Rattle.input.proofs.Known.{told_fault}
use Rattle.input.proofs.reading.read_text.Goals as goal

pub returns-in-Err-clause-fault : goal.returns-in-Err-clause-fault
returns-in-Err-clause-fault c = told_fault c.args.text.now c.without_mark-text.result.now c.in-Err.fault c.text_error.result c.without_mark-text.ensures c.in-Err.ensures.fault c.text_error.ensures
