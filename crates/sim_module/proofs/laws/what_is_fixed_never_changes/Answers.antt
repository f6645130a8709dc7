use Rattle.sim_module.proofs.UnchangingParts.{events_leave_fixed}
use Rattle.sim_module.proofs.laws.what_is_fixed_never_changes.Goals as goal

pub returns : goal.returns
returns c = events_leave_fixed
