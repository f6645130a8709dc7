use Rattle.sim_module.proofs.LanesInTime.{held_down}
use Rattle.sim_module.proofs.laws.a_lane_holds_its_path_down.Goals as goal

pub returns : goal.returns
returns c = held_down
