use Rattle.lane_controls.proofs.PathLaneLaws.{needs_permission}
use Rattle.lane_controls.proofs.laws.lanes_that_are_up_need_permission.Goals as goal

pub returns : goal.returns
returns c = needs_permission
