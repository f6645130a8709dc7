use Rattle.managed_module.proofs.PlanStories.{plans_dont_fail}
use Rattle.managed_module.proofs.laws.a_plan_of_its_own_does_not_fail.Goals as goal

pub returns : goal.returns
returns c = plans_dont_fail
