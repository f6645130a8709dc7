use Rattle.std.proofs.Common.{take}
use Rattle.control_sets.proofs.PlanLaneLaws.{AreLanesOf}
use Rattle.control_sets.proofs.plan_bytes.lanes_of.Given as goal

-- the lanes of the paths so far
abbrev pub invariant-loop-path : goal.invariant-loop-path
invariant-loop-path l = AreLanesOf l.advert (take l.path-index l.path-items) l.lanes
