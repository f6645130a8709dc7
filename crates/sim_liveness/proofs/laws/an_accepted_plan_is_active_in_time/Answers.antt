use Rattle.sim_liveness.proofs.AppliedPlans.{applies_plans}
use Rattle.sim_liveness.proofs.laws.an_accepted_plan_is_active_in_time.Goals as goal

pub returns : goal.returns
returns c = applies_plans
