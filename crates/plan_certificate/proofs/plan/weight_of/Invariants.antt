use Rattle.std.proofs.Common.{◌≡◌, ◌*◌, ◌≤◌, take}
use Rattle.plan_certificate.specs.Plans.{plan_weight}
use Rattle.plan_certificate.proofs.plan.weight_of.Given as goal

-- the weight of the paths so far
abbrev pub invariant-loop-path : goal.invariant-loop-path
invariant-loop-path l = record {
  weighs : l.weight ≡ plan_weight l.weights (take l.path-index l.path-items);
  few : l.weight ≤ 17179869180 * l.path-index;
}
