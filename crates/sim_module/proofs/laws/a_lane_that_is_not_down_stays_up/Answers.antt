use Rattle.sim_module.proofs.LanesInTime.{stays_up}
use Rattle.sim_module.proofs.laws.a_lane_that_is_not_down_stays_up.Goals as goal

pub returns : goal.returns
returns c = stays_up
