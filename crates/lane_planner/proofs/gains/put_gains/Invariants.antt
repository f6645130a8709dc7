use Rattle.std.proofs.Common.{◌+◌, ◌-◌, ◌*◌, ◌≤◌}
use Rattle.lane_planner.specs.Tables.{AreGains, HasGains}
use Rattle.lane_planner.proofs.TableGains.{IsDone}
use Rattle.lane_planner.proofs.gains.put_gains.Given as goal

-- the gains from this boundary on
abbrev pub invariant-loop-boundary : goal.invariant-loop-boundary
invariant-loop-boundary l = HasGains l.advert l.weights l.kept (256 * l.boundary) l.table

-- those past this boundary, and of those at it the first ones
abbrev pub invariant-loop-place : goal.invariant-loop-place
invariant-loop-place l = record {
  gains : AreGains l.advert l.weights l.kept (IsDone l.boundary l.from) l.table;
  at : 256 * l.boundary ≤ l.from;
}

abbrev pub decreases-loop-place : goal.decreases-loop-place
decreases-loop-place l = 256 * l.boundary + 256 - l.from
