use Rattle.std.proofs.Common.{◌≡◌}
use Rattle.observables.specs.Instances.{instances_before}
use Rattle.observables.proofs.instances.all_instances.Given as goal

-- the instances so far that are used
abbrev pub invariant-loop-number : goal.invariant-loop-number
invariant-loop-number l = l.all.items ≡ instances_before l.image l.bank l.number
