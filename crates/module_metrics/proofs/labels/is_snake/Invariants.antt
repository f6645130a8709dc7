use Rattle.std.proofs.Common.{◌≡◌, drop}
use Rattle.std.specs.Str.{bytes_eq}
use Rattle.module_metrics.specs.MetricNames.{snake}
use Rattle.module_metrics.proofs.labels.is_snake.Given as goal

-- all so far are the same
abbrev pub invariant-loop-index : goal.invariant-loop-index
invariant-loop-index l = bytes_eq l.key (snake l.name) ≡ bytes_eq (drop l.index l.key) (snake (drop l.index l.name))
