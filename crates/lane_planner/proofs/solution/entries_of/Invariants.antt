use Rattle.std.proofs.Common.{◌≡◌, ◌-◌, ◌≤◌}
use Rattle.lane_planner.specs.Tables.{marked_entries}
use Rattle.lane_planner.proofs.solution.entries_of.Given as goal

-- the entries so far
abbrev pub invariant-loop-place : goal.invariant-loop-place
invariant-loop-place l = (l.entries.entries ≡ marked_entries l.marks l.table l.from) × (l.from ≤ 2304)

abbrev pub decreases-loop-place : goal.decreases-loop-place
decreases-loop-place l = 2304 - l.from
