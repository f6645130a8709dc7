use Rattle.sim_module.proofs.LanesInTime.{comes_up}
use Rattle.sim_module.proofs.laws.a_lane_that_is_not_down_comes_up.Goals as goal

pub returns : goal.returns
returns c = comes_up
