use Rattle.std.proofs.Common.{Ok, refl, inl, inr, sym, ap, ◌∙◌, arith}
use Rattle.std.proofs.lemmas.Result.{err_from_is_err_and}
use Rattle.hextext.proofs.Readings.{reads_to, reads_byte, reads_fault, reads_some, reads_needed, reads_lone, reads_whole}
use Rattle.hextext.proofs.RoundTrips.{round_trip}
use Rattle.hextext.proofs.reading.read.Goals as goal
use Rattle.hextext.proofs.reading.read.Goals.{in-To, in-Byte+in_ok-push-in-Byte}

pub loop-byte-preserved : goal.loop-byte-preserved
loop-byte-preserved c =
    elim c.match-branch-2.branch [
      | in-To w ↦
          let e = sym c.step.ensures ∙ c.in_ok-next.was ∙ ap Ok w.in-To.is in
          rw (w.bytes-is, w.mode-is, c.after-at.ensures) (reads_to _ _ _ _ _ _ (omega arith) e c.loop-byte.invariant)
      | in-Byte+in_ok-push-in-Byte w ↦
          let e = sym c.step.ensures ∙ c.in_ok-next.was ∙ ap Ok w.in-Byte.is in
          rw (w.bytes-is, w.mode-is, c.after-at.ensures, w.in_ok-push-in-Byte.ensures.items) (reads_byte _ _ _ _ _ _ (omega arith) e c.loop-byte.invariant)
    ]

pub returns-in_err-next : goal.returns-in_err-next
returns-in_err-next c =
    let p = err_from_is_err_and c.from_residual.result c.from_residual.ensures.1 in
    let fault = reads_fault _ _ _ _ _ _ (omega arith) (sym c.step.ensures ∙ c.in_err-next.was) c.loop-byte.invariant in
    rw (p.1, p.2) record { ok = tt; fault = inr fault; memory = λ h. cc (sym h ∙ fault); round_trip = round_trip }

pub returns-in_err-push-in-Byte-clause-fault : goal.returns-in_err-push-in-Byte-clause-fault
returns-in_err-push-in-Byte-clause-fault c =
    let e = sym c.step.ensures ∙ c.in_ok-next.was ∙ ap Ok c.in-Byte.is in
    let p = err_from_is_err_and c.from_residual-in_err-push-in-Byte.result c.from_residual-in_err-push-in-Byte.ensures.1 in
    let said = reads_needed _ _ _ _ _ _ (omega arith) e c.loop-byte.invariant in
    rw (p.1, p.2) (inl (refl, said))

pub returns-in_err-push-in-Byte-clause-memory : goal.returns-in_err-push-in-Byte-clause-memory
returns-in_err-push-in-Byte-clause-memory c =
    λ h.
    let e = sym c.step.ensures ∙ c.in_ok-next.was ∙ ap Ok c.in-Byte.is in
    absurd (reads_some _ _ _ _ _ _ (omega arith) e c.loop-byte.invariant h)

pub returns-in_err-push-in-Byte-clause-round_trip : goal.returns-in_err-push-in-Byte-clause-round_trip
returns-in_err-push-in-Byte-clause-round_trip c = round_trip

pub returns-in-Second : goal.returns-in-Second
returns-in-Second c =
    let fault = reads_lone _ _ _ _ _ _ _ c.in-Second.is c.loop-byte-test.false c.loop-byte.invariant in
    record { ok = tt; fault = inr fault; memory = λ h. cc (sym h ∙ fault); round_trip = round_trip }

pub returns-in-Between : goal.returns-in-Between
returns-in-Between c =
    let whole = reads_whole _ _ _ _ _ c.in-Between.is c.loop-byte-test.false c.loop-byte.invariant in
    record { ok = whole; fault = tt; memory = λ _. refl; round_trip = round_trip }
