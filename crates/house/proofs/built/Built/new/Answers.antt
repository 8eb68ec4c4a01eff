use Rattle.std.proofs.Common.{◌≡◌, length, sym, ap, ◌∙◌}
use Rattle.station.specs.Listed.{no_addresses, listed}
use Rattle.house.specs.Faults.{faulted, fault_of}
use Rattle.house.proofs.Builders.{fault_listed, counted_all}
use Rattle.house.proofs.Checking.{OkUnless-same}
use Rattle.house.proofs.built.Built.new.Goals as goal

pub invariant_of-result : goal.invariant_of-result
invariant_of-result g c =
    let ss = g.S.Station.seats c.args.station in
    let sound = (g.met.S.Station.stands c.args.station).1 in
    let list = c.list_addresses.new.list in
    let all : list ≡ listed ss no_addresses = c.list_addresses.ensures ∙ ap (listed ss) c.new-list.ensures in
    let fault = ap faulted all ∙ fault_listed ss sound in
    record { known = OkUnless-same _ (faulted list) (fault_of ss) list.count (length ss) (sym fault) (λ n. ap (λ r. r.count) all ∙ counted_all ss sound (sym (ap faulted all) ∙ n)) c.checked_seats-seats.ensures }
