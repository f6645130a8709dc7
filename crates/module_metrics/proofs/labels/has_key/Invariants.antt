use Rattle.std.proofs.Common.{◌≡◌, drop, map}
use Rattle.module_metrics.specs.CommonLabels.{has_key}
use Rattle.module_metrics.specs.MetricData.{label_of}
use Rattle.module_metrics.proofs.labels.has_key.Given as goal

-- none so far has it
abbrev pub invariant-loop-label : goal.invariant-loop-label
invariant-loop-label l = has_key (map label_of l.labels) l.key ≡ has_key (map label_of (drop l.label-index l.labels)) l.key
