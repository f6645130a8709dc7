use Rattle.managed_module.proofs.OwnStories.{goals_are_own}
use Rattle.managed_module.proofs.laws.a_goal_is_of_the_module.Goals as goal

pub returns : goal.returns
returns c = goals_are_own
