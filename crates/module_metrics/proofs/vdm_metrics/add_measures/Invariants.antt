use Rattle.std.proofs.Common.{◌≡◌, ◌++◌, take}
use Rattle.std.specs.List.{flat_map}
use Rattle.module_metrics.specs.MetricData.{metrics_in}
use Rattle.module_metrics.specs.VdmMetrics.{measure_metrics}
use Rattle.module_metrics.proofs.vdm_metrics.add_measures.Given as goal

-- the metrics so far
abbrev pub invariant-loop-measure : goal.invariant-loop-measure
invariant-loop-measure l = metrics_in l.metrics ≡ metrics_in l.initial.metrics ++ flat_map (measure_metrics l.seen) (take l.measure-index l.measures)
