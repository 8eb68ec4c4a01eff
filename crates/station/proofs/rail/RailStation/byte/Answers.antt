use Rattle.std.proofs.Common.{None, rules}
use Rattle.station.specs.Kinds.{bytes}
use Rattle.station.specs.Seats.{nth}
use Rattle.station.specs.SeatsLemmas.{first_asked}
use Rattle.station.proofs.rail.RailStation.byte.Goals as goal

pub returns : goal.returns
returns g c =
    first_asked None (λ s. nth c.args.place (bytes s.content)) c.args.address (g.A.Station.seats c.args.self.now.first) (g.B.Station.seats c.args.self.now.second) c.ask.result
    (λ h. let said = c.ask.ensures.first h in search rules) (λ h. let said = c.ask.ensures.second h in search rules)
