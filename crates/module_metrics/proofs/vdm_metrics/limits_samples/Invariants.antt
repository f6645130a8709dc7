use Rattle.std.proofs.Common.{◌≡◌, take}
use Rattle.std.specs.List.{flat_map}
use Rattle.module_metrics.specs.MetricData.{samples_in}
use Rattle.module_metrics.specs.VdmMetrics.{limit_samples}
use Rattle.module_metrics.proofs.vdm_metrics.limits_samples.Given as goal

-- the samples so far
abbrev pub invariant-loop-one : goal.invariant-loop-one
invariant-loop-one l = samples_in l.samples ≡ flat_map (limit_samples l.measure) (take l.one-index l.seen)
