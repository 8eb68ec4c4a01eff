use Rattle.std.proofs.Common.{subst}
use Rattle.std.specs.Result.{IfErr, IfOk}
use Rattle.input.specs.declared.form.Form.TheVariants.{Hex}
use Rattle.input.specs.Faults.{IsFaultOf}
use Rattle.input.specs.Forms.{Reads}
use Rattle.input.proofs.Known.{as_faulty, as_given}
use Rattle.input.proofs.reading.read_log.Goals as goal

pub returns-in_ok-read_all-in-Hex-clause-log : goal.returns-in_ok-read_all-in-Hex-clause-log
returns-in_ok-read_all-in-Hex-clause-log g c =
    let r = c.read_text.result in
    let all = c.in_ok-read_all-in-Hex.field-0.items in
    let text = subst (λ t. IfOk r (λ log. Reads Hex t log.items)) c.as_slice.ensures.value c.read_text.ensures.log in
    as_given (λ log. log.items) r (g.R.Read.remaining c.args.reader) all (λ bytes. c.args.form) c.in-Hex.is c.in_ok-read_all-in-Hex.ensures text

pub returns-in_ok-read_all-in-Hex-clause-fault : goal.returns-in_ok-read_all-in-Hex-clause-fault
returns-in_ok-read_all-in-Hex-clause-fault g c =
    let r = c.read_text.result in
    let all = c.in_ok-read_all-in-Hex.field-0.items in
    let text = subst (λ t. IfErr r (λ e. IsFaultOf e Hex t)) c.as_slice.ensures.value c.read_text.ensures.fault in
    as_faulty r (g.R.Read.remaining c.args.reader) all (λ bytes. c.args.form) c.in-Hex.is c.in_ok-read_all-in-Hex.ensures text
