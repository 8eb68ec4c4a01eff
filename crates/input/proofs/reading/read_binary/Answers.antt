use Rattle.std.proofs.Common.{◌≡◌, ◌++◌, take, subst}
use Rattle.std.specs.Option.{option_map, IfSome}
use Rattle.input.proofs.Known.{limited}
use Rattle.input.proofs.reading.read_binary.Goals as goal

pub returns : goal.returns
returns g c =
    let all = c.read_to_end.new.buf.items in
    let before = c.in_ok-log.log.items in
    let limit = c.take.result.limit in
    limited (g.R.Read.remaining c.args.reader) limit before all c.take.ensures.limit c.in_ok-log.ensures.items
    (subst (λ r. IfSome (option_map (take limit) (g.R.Read.remaining r)) (λ xs. all ≡ before ++ xs)) c.take.ensures.inner c.in_ok-read_to_end.ensures.bytes)
