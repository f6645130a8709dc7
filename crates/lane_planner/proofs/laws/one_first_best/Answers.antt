use Rattle.lane_planner.proofs.FirstLaws.{one_first}
use Rattle.lane_planner.proofs.laws.one_first_best.Goals as goal

pub returns : goal.returns
returns c = one_first
