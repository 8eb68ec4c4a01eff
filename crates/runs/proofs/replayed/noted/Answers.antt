use Rattle.std.proofs.Common.{ap, ◌∙◌, take, drop, length, ◌++◌, ◌≡◌, arith}
use Rattle.std.proofs.Math.Seq.{take-append_seam}
use Rattle.house.specs.Houses.{bus_of}
use Rattle.house.specs.Turns.{turn, copied_in}
use Rattle.runs.specs.Making.{sent_number}
use Rattle.runs.proofs.Making.{sent_kept, own_places}
use Rattle.runs.proofs.replayed.noted.Goals as goal

pub returns-clause-entry : goal.returns-clause-entry
returns-clause-entry c k =
    let told = k.perform-answer.ensures.turn in
    let x = bus_of c.S.Station.seats k.args.house.now in
    let new = k.perform-answer.new.buffer in
    let old = k.args.buffer.items in
    let start = k.as_mut_slice.result.now in
    let own = own_places k.args.call (length start) (search (arith, k.as_mut_slice.ensures.len, k.args)) in
    let full : k.args.buffer.len ≡ length new = search (arith, k.perform-answer.auto.buffer, k.as_mut_slice.ensures.len) in
    let kept : k.truncate.new.self.items ≡ (turn x.seats x.pending k.args.call).sent =
    k.truncate.ensures.items
    ∙ ap (λ n. take k.number_sent.result (take n (new ++ drop (length new) old))) full
    ∙ ap (take k.number_sent.result) (take-append_seam new (drop (length new) old))
    ∙ ap (λ n. take n new) (k.number_sent.ensures ∙ ap sent_number (told.answer ∙ ap (λ d. (turn x.seats x.pending d).answer) own))
    ∙ ap (take _) (told.buffer ∙ ap (λ d. copied_in (turn x.seats x.pending d).sent start) own)
    ∙ sent_kept x.seats x.pending k.args.call _ in
    λ i. record { call = k.args.call; answer = (told.answer ∙ ap (λ d. (turn x.seats x.pending d).answer) own) i; sent = kept i }
