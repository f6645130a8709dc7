use Rattle.lane_planner.proofs.planner.plan_keeping.Goals as goal

pub returns : goal.returns
returns c = rw c.certificate.ensures c.solve.ensures.certified
