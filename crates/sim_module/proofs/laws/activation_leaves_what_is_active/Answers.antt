use Rattle.sim_module.proofs.Activated.{activation_rests}
use Rattle.sim_module.proofs.laws.activation_leaves_what_is_active.Goals as goal

pub returns : goal.returns
returns c = activation_rests
