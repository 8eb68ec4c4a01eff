use Rattle.runs.proofs.Making.{ran_more}
use Rattle.runs.proofs.Stations.{isolation_stands}
use Rattle.runs.proofs.replayed.replay.Goals as goal

pub loop-call-preserved : goal.loop-call-preserved
loop-call-preserved g c = ran_more _ _ _ _ _ _ _ c.loop-call-test.true c.loop-call.invariant c.in-Ok-make.ensures.made

pub returns-in-Err-clause-isolation : goal.returns-in-Err-clause-isolation
returns-in-Err-clause-isolation g c = isolation_stands _ (g.met.S.Station.stands c.args.station)

pub returns-in_default-clause-isolation : goal.returns-in_default-clause-isolation
returns-in_default-clause-isolation g c = isolation_stands _ (g.met.S.Station.stands c.args.station)

pub returns-clause-isolation : goal.returns-clause-isolation
returns-clause-isolation g c = isolation_stands _ (g.met.S.Station.stands c.args.station)
