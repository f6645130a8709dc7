use Rattle.std.proofs.Common.{◌≡◌, ◌≤◌, ◌-◌}
use Rattle.observables.specs.Observations.{all_places, observations_before}
use Rattle.observables.proofs.observations.all_observations.Given as goal

-- the observations of the places so far
abbrev pub invariant-loop-place : goal.invariant-loop-place
invariant-loop-place l = (l.all.items ≡ observations_before l.image l.from) × (l.from ≤ all_places)

abbrev pub decreases-loop-place : goal.decreases-loop-place
decreases-loop-place l = all_places - l.from
