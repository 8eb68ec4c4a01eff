use Rattle.std.proofs.Common.{arith, ap, sym, subst, ◌∙◌, ◌++◌, length, take, drop}
use Rattle.std.proofs.lemmas.List.{length-take-le}
use Rattle.bus.specs.Frames.{of_body}
use Rattle.benchlog.specs.PutItems.{ReadsBack}
use Rattle.benchlog.proofs.RoundTrip.{read_back}
use Rattle.benchlog.proofs.putting.write_put_item.Goals as goal

pub returns-clause-round_trip : goal.returns-clause-round_trip
returns-clause-round_trip c =
    let f = c.args.frame.now in
    let bytes = c.tagged.ensures.value in
    let written = ap (λ xs. take 13 (xs ++ drop 13 c.args.buffer.now)) (c.copy_from_slice.ensures.after ∙ bytes) in
    subst (ReadsBack f) (sym written) (read_back f (sym (ap (λ xs. of_body (drop 1 xs)) bytes) ∙ c.tagged.ensures.told))

pub copy_from_slice-requires : goal.copy_from_slice-requires
copy_from_slice-requires c = length-take-le 13 c.args.buffer.now (search (arith, c.if-buffer-lt13.false)) ∙ sym (ap length c.tagged.ensures.value)
