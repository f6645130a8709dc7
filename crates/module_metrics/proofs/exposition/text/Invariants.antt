use Rattle.std.proofs.Common.{◌≡◌, map, take}
use Rattle.module_metrics.specs.Exposition.{exposition}
use Rattle.module_metrics.specs.MetricData.{label_of, metric_of}
use Rattle.module_metrics.proofs.exposition.text.Given as goal

-- the metrics so far
abbrev pub invariant-loop-metric : goal.invariant-loop-metric
invariant-loop-metric l = l.text.items ≡ exposition (map label_of l.common) (map metric_of (take l.metric-index l.metrics))
