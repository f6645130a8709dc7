use Rattle.std.proofs.Common.{◌-◌}
use Rattle.lane_planner.proofs.ReadOffs.{IsSoFar}
use Rattle.lane_planner.proofs.choices.read_off.Given as goal

-- the plan so far
abbrev pub invariant-loop-state : goal.invariant-loop-state
invariant-loop-state l = IsSoFar l.advert l.weights l.kept l.table l.state l.paths.items

abbrev pub decreases-loop-state : goal.decreases-loop-state
decreases-loop-state l = 8 - l.state.boundary
