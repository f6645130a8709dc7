use Rattle.std.proofs.Common.{◌≡◌, map, take}
use Rattle.std.specs.List.{enumerate_from}
use Rattle.module_metrics.specs.Amounts.{lane_sample}
use Rattle.module_metrics.specs.MetricData.{samples_in}
use Rattle.module_metrics.proofs.amounts.lane_samples.Given as goal

-- the lanes so far
abbrev pub invariant-loop-index : goal.invariant-loop-index
invariant-loop-index l = samples_in l.samples ≡ map (lane_sample l.unit) (enumerate_from 1 (take l.index l.values))
