use Rattle.managed_module.proofs.OwnStories.{comes_up_suited}
use Rattle.managed_module.proofs.laws.a_suited_module_comes_up.Goals as goal

pub returns : goal.returns
returns c = comes_up_suited
