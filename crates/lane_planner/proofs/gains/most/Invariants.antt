use Rattle.std.proofs.Common.{◌≡◌, ◌-◌, ◌*◌, ◌≤◌, take}
use Rattle.lane_planner.proofs.Words.{decisions_by}
use Rattle.lane_planner.specs.Tables.{most_by}
use Rattle.lane_planner.proofs.gains.most.Given as goal

-- the most of the decisions so far
abbrev pub invariant-loop-one : goal.invariant-loop-one
invariant-loop-one l = record {
  most : l.most ≡ most_by l.table (decisions_by l.may_stay_free l.state (take l.one-index l.moves));
  small : l.most ≤ 17179869180 * (8 - l.state.boundary);
}
