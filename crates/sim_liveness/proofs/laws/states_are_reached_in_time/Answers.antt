use Rattle.sim_liveness.proofs.AppliedInTime.{applies_in_time}
use Rattle.sim_liveness.proofs.InTime.{comes_up_in_time, goes_down, wakes_in_time}
use Rattle.sim_liveness.proofs.laws.states_are_reached_in_time.Goals as goal

pub returns-clause-down : goal.returns-clause-down
returns-clause-down c = λ most. goes_down most

pub returns-clause-up : goal.returns-clause-up
returns-clause-up c = λ most. comes_up_in_time most

pub returns-clause-awake : goal.returns-clause-awake
returns-clause-awake c = λ most. wakes_in_time most

pub returns-clause-applied : goal.returns-clause-applied
returns-clause-applied c = applies_in_time
