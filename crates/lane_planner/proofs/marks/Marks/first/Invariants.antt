use Rattle.std.proofs.Common.{◌-◌, ◌≤◌}
use Rattle.lane_planner.specs.Marks.{NoneMarked}
use Rattle.lane_planner.proofs.marks.Marks.first.Given as goal

-- none is marked so far
abbrev pub invariant-loop-place : goal.invariant-loop-place
invariant-loop-place l = record { after : l.from ≤ l.place; none : NoneMarked l.self l.from l.place }

abbrev pub decreases-loop-place : goal.decreases-loop-place
decreases-loop-place l = l.end - l.place
