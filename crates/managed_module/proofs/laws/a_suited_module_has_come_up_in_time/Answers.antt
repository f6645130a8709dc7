use Rattle.managed_module.proofs.OwnMoments.{suited_has_come_up_in_time}
use Rattle.managed_module.proofs.laws.a_suited_module_has_come_up_in_time.Goals as goal

pub returns : goal.returns
returns c = suited_has_come_up_in_time
