use Rattle.sim_liveness.proofs.AcceptedPlans.{accepts_plans}
use Rattle.sim_liveness.proofs.laws.a_module_accepts_its_plans.Goals as goal

pub returns : goal.returns
returns c = accepts_plans
