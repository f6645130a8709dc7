use Rattle.std.proofs.Common.{◌≡◌, ◌<◌, ◌≤◌, ◌*◌, None, ℕ}
use Rattle.std.specs.Prelude.{max}
use Rattle.observables.specs.Observations as spec
use Rattle.observables.proofs.observations.next_of_monitor.Given as goal

-- no place so far has an observation
abbrev pub invariant-loop-place : goal.invariant-loop-place
invariant-loop-place l = (k : ℕ) → max l.from (32 * l.number) ≤ k → k < l.place → spec.observation_at l.image k ≡ None
