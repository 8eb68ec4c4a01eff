use Rattle.std.proofs.Common.{length, sym, ap, ◌∙◌}
use Rattle.std.proofs.lemmas.List.{length-map}
use Rattle.station.specs.Kinds.{after}
use Rattle.station.specs.SeatsLemmas.{few_sent}
use Rattle.house.specs.Faults.{fault_of}
use Rattle.house.proofs.Builders.{fault_of_after}
use Rattle.house.proofs.Checking.{OkUnless-same}
use Rattle.house.proofs.built.Built.act.Goals as goal

pub invariant_of-self : goal.invariant_of-self
invariant_of-self g c =
    let ss = g.S.Station.seats c.args.self.now.station in
    let later = g.S.Station.seats c.act.new.self in
    let fault = ap fault_of c.act.ensures.after ∙ fault_of_after c.args.event ss in
    let count = ap length c.act.ensures.after ∙ length-map ss (after c.args.event) in
    record { known = OkUnless-same _ (fault_of ss) (fault_of later) (length ss) (length later) fault (λ n. sym count) c.args.self.now.known }

pub returns-clause-few : goal.returns-clause-few
returns-clause-few g c = few_sent c.args.event (g.S.Station.seats c.args.self.now.station) (g.met.S.Station.stands c.args.self.now.station).1
