use Rattle.lane_controls.proofs.LaneProgressLaws.{ends_in_time, ends_so, ends_soon}
use Rattle.lane_controls.proofs.laws.a_change_of_lanes_ends.Goals as goal

pub returns : goal.returns
returns c = record {
  in_time = ends_in_time;
  soon = λ change first states history op some own keeps wanted. ends_soon change first states some history op own keeps wanted;
  so = λ change first states history end some own keeps ended. ends_so change first states some history end own keeps ended;
}
