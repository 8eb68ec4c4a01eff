use Rattle.std.proofs.Common.{rules}
use Rattle.station.specs.SeatsLemmas.{first_asked}
use Rattle.station.proofs.rail.RailStation.buttons.Goals as goal

pub returns : goal.returns
returns g c =
    first_asked 0 (λ s. s.kind.buttons) c.args.address (g.A.Station.seats c.args.self.now.first) (g.B.Station.seats c.args.self.now.second) c.ask.result
    (λ h. let said = c.ask.ensures.first h in search rules) (λ h. let said = c.ask.ensures.second h in search rules)
