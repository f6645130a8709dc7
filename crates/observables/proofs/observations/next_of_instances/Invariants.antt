use Rattle.std.proofs.Common.{◌≡◌, ◌<◌, ◌≤◌, ◌+◌, ◌*◌, None, ℕ}
use Rattle.observables.specs.Observations as spec
use Rattle.observables.proofs.observations.next_of_instances.Given as goal

-- no place of the pages so far has an observation
abbrev pub invariant-loop-page : goal.invariant-loop-page
invariant-loop-page l = (k : ℕ) → l.from ≤ k → k < spec.monitor_places + 64 * l.page → spec.observation_at l.image k ≡ None
