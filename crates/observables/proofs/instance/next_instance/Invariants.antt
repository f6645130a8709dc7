use Rattle.std.proofs.Common.{◌≡◌, ◌<◌, ◌≤◌, None, ℕ}
use Rattle.observables.specs.Instances as spec
use Rattle.observables.proofs.instance.next_instance.Given as goal

-- no instance so far is used
abbrev pub invariant-loop-number : goal.invariant-loop-number
invariant-loop-number l = (k : ℕ) → l.from ≤ k → k < l.number → spec.instance_at l.image l.bank k ≡ None
