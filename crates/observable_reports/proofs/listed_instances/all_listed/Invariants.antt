use Rattle.std.proofs.Common.{◌≡◌, ◌≤◌, ◌-◌}
use Rattle.observables.specs.Observations.{all_places, monitor_places}
use Rattle.observable_reports.specs.ListedInstances.{listed_before}
use Rattle.observable_reports.proofs.listed_instances.all_listed.Given as goal

-- the instances so far
abbrev pub invariant-loop-place : goal.invariant-loop-place
invariant-loop-place l = (l.seen.items ≡ listed_before l.image (l.from - monitor_places)) × (monitor_places ≤ l.from) × (l.from ≤ all_places)

abbrev pub decreases-loop-place : goal.decreases-loop-place
decreases-loop-place l = all_places - l.from
