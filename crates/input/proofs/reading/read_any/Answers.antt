use Rattle.std.proofs.Common.{ap, sym, subst, ◌∙◌}
use Rattle.std.specs.Result.{IfErr, IfOk}
use Rattle.input.specs.declared.form.Form.TheVariants.{Hex}
use Rattle.input.specs.Faults.{IsFaultOf}
use Rattle.input.specs.Forms.{Reads, form_of}
use Rattle.input.proofs.Known.{as_faulty, as_given}
use Rattle.input.proofs.reading.read_any.Goals as goal

pub returns-in-Hex-clause-log : goal.returns-in-Hex-clause-log
returns-in-Hex-clause-log g c =
    let r = c.read_text.result in
    let all = c.in_ok-bytes.bytes.items in
    let text = subst (λ t. IfOk r (λ log. Reads Hex t log.items)) c.as_slice-in-Hex.ensures.value c.read_text.ensures.log in
    let form = sym (c.form_of.ensures ∙ ap form_of c.as_slice.ensures.value) ∙ c.in-Hex.is in
    as_given (λ log. log.items) r (g.R.Read.remaining c.args.reader) all form_of form c.in_ok-bytes.ensures text

pub returns-in-Hex-clause-fault : goal.returns-in-Hex-clause-fault
returns-in-Hex-clause-fault g c =
    let r = c.read_text.result in
    let all = c.in_ok-bytes.bytes.items in
    let text = subst (λ t. IfErr r (λ e. IsFaultOf e Hex t)) c.as_slice-in-Hex.ensures.value c.read_text.ensures.fault in
    let form = sym (c.form_of.ensures ∙ ap form_of c.as_slice.ensures.value) ∙ c.in-Hex.is in
    as_faulty r (g.R.Read.remaining c.args.reader) all form_of form c.in_ok-bytes.ensures text
