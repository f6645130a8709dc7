use Rattle.std.proofs.Common.{◌+◌, ◌-◌, ◌*◌, ◌≤◌}
use Rattle.lane_planner.specs.Marks.{AreMarks}
use Rattle.lane_planner.proofs.reached.reached.Given as goal

-- the states at the boundaries so far are done
abbrev pub invariant-loop-boundary : goal.invariant-loop-boundary
invariant-loop-boundary l = AreMarks l.advert l.weights l.kept (256 * l.boundary) l.marks

-- and those of this boundary so far
abbrev pub invariant-loop-place : goal.invariant-loop-place
invariant-loop-place l = record {
  so_far : AreMarks l.advert l.weights l.kept l.from l.marks;
  at : 256 * l.boundary ≤ l.from;
}

abbrev pub decreases-loop-place : goal.decreases-loop-place
decreases-loop-place l = 256 * l.boundary + 256 - l.from
