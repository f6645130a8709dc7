use Rattle.lane_planner.proofs.OneText.{one_text}
use Rattle.lane_planner.proofs.laws.one_plan_text.Goals as goal

pub returns : goal.returns
returns c = one_text
