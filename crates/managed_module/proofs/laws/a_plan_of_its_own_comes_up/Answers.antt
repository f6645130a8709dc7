use Rattle.managed_module.proofs.PlanStories.{plans_come_up}
use Rattle.managed_module.proofs.laws.a_plan_of_its_own_comes_up.Goals as goal

pub returns : goal.returns
returns c = plans_come_up
