use Rattle.std.proofs.Common.{◌≡◌, ◌<◌, ◌≤◌, ◌*◌, None, ℕ}
use Rattle.observables.specs.Observations as spec
use Rattle.observables.proofs.observations.next_observation.Given as goal

-- no place of the monitors so far has an observation
abbrev pub invariant-loop-number : goal.invariant-loop-number
invariant-loop-number l = (k : ℕ) → l.from ≤ k → k < 32 * l.number → spec.observation_at l.image k ≡ None
