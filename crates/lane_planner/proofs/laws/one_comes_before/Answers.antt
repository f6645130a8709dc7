use Rattle.lane_planner.proofs.FirstLaws.{not_before_same, one_before}
use Rattle.lane_planner.proofs.laws.one_comes_before.Goals as goal

pub returns-clause-one : goal.returns-clause-one
returns-clause-one c = one_before

pub returns-clause-other : goal.returns-clause-other
returns-clause-other c = not_before_same
