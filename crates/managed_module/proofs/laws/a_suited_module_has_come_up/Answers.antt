use Rattle.managed_module.proofs.OwnStories.{suited_has_come_up}
use Rattle.managed_module.proofs.laws.a_suited_module_has_come_up.Goals as goal

pub returns : goal.returns
returns c = suited_has_come_up
