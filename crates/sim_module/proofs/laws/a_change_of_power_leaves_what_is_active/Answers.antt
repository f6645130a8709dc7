use Rattle.sim_module.proofs.ChangedPower.{power_rests}
use Rattle.sim_module.proofs.laws.a_change_of_power_leaves_what_is_active.Goals as goal

pub returns : goal.returns
returns c = power_rests
