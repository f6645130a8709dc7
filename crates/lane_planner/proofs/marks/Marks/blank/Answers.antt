use Rattle.lane_planner.proofs.MarkBits.{blank_at}
use Rattle.lane_planner.proofs.marks.Marks.blank.Goals as goal

pub returns : goal.returns
returns c = blank_at 288
