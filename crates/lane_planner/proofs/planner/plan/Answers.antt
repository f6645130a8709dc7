use Rattle.lane_planner.proofs.planner.plan.Goals as goal

pub returns-clause-certified : goal.returns-clause-certified
returns-clause-certified c = rw c.new.ensures at c.plan_keeping.ensures
