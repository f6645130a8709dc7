use Rattle.std.proofs.Common.{◌≡◌, map, take}
use Rattle.module_metrics.specs.FlagMetrics.{flag_sample, flags_in}
use Rattle.module_metrics.specs.MetricData.{samples_in}
use Rattle.module_metrics.proofs.flag_metrics.flag_samples.Given as goal

-- the flags so far
abbrev pub invariant-loop-flag : goal.invariant-loop-flag
invariant-loop-flag l = samples_in l.samples ≡ map flag_sample (flags_in l.lanes (take l.flag-index l.flags))
