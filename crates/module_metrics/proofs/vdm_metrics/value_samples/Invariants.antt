use Rattle.std.proofs.Common.{◌≡◌, take}
use Rattle.std.specs.List.{flat_map}
use Rattle.module_metrics.specs.MetricData.{samples_in}
use Rattle.module_metrics.specs.VdmMetrics.{value_sample}
use Rattle.module_metrics.proofs.vdm_metrics.value_samples.Given as goal

-- the samples so far
abbrev pub invariant-loop-one : goal.invariant-loop-one
invariant-loop-one l = samples_in l.samples ≡ flat_map (value_sample l.measure) (take l.one-index l.seen)
