use Rattle.sim_module.proofs.ReleasedLanes.{kept_lanes_are_released}
use Rattle.sim_module.proofs.laws.provisioning_releases_kept_lanes.Goals as goal

pub returns : goal.returns
returns c = kept_lanes_are_released
