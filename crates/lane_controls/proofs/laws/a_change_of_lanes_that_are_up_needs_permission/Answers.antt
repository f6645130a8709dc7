use Rattle.lane_controls.proofs.PathLaneLaws.{change_needs_permission}
use Rattle.lane_controls.proofs.laws.a_change_of_lanes_that_are_up_needs_permission.Goals as goal

pub returns : goal.returns
returns c = change_needs_permission
