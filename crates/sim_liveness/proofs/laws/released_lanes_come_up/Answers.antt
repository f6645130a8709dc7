use Rattle.sim_liveness.proofs.ReleasedLanes.{not_down, released_come_up, released_stay}
use Rattle.sim_liveness.proofs.laws.released_lanes_come_up.Goals as goal

pub returns-clause-free : goal.returns-clause-free
returns-clause-free c = not_down

pub returns-clause-stay : goal.returns-clause-stay
returns-clause-stay c = released_stay

pub returns-clause-up : goal.returns-clause-up
returns-clause-up c = λ most. released_come_up most
