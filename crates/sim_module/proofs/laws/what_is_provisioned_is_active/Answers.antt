use Rattle.sim_module.proofs.Provisioned.{active_if_none, active_is_planned, active_on_some}
use Rattle.sim_module.proofs.laws.what_is_provisioned_is_active.Goals as goal

pub returns-clause-all_lanes : goal.returns-clause-all_lanes
returns-clause-all_lanes c = active_is_planned

pub returns-clause-some_lane : goal.returns-clause-some_lane
returns-clause-some_lane c = active_on_some

pub returns-clause-no_apply : goal.returns-clause-no_apply
returns-clause-no_apply c = active_if_none
