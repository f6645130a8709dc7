use Rattle.std.proofs.Common.{take}
use Rattle.lane_planner.proofs.Words.{decisions_by}
use Rattle.lane_planner.specs.Marks.{MarksEnds}
use Rattle.lane_planner.proofs.reached.mark_ends.Given as goal

-- the ends of the free lane's decision and of the moves so far
abbrev pub invariant-loop-one : goal.invariant-loop-one
invariant-loop-one l = MarksEnds (decisions_by l.may_stay_free l.state (take l.one-index l.moves)) l.fn.marks l.marks
