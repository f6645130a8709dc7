use Rattle.std.proofs.Common.{◌+◌}
use Rattle.port_manager.specs.Changes.{has_role}
use Rattle.port_manager.proofs.GatheredLanes.{Gathered}
use Rattle.port_manager.proofs.change.lanes_with.Given as goal

-- of the lanes so far, those that have the role
abbrev pub invariant-loop-place : goal.invariant-loop-place
invariant-loop-place l = Gathered (has_role l.role l.page l.change) (l.place + 1) l.lanes
