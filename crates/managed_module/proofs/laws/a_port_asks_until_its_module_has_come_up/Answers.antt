use Rattle.managed_module.proofs.OwnMoments.{suited_is_asked_for}
use Rattle.managed_module.proofs.laws.a_port_asks_until_its_module_has_come_up.Goals as goal

pub returns : goal.returns
returns c = suited_is_asked_for
