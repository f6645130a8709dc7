use Rattle.std.proofs.Common.{◌≡◌, map, take}
use Rattle.std.specs.List.{enumerate_from}
use Rattle.module_metrics.specs.StateMetrics.{status_sample}
use Rattle.module_metrics.specs.MetricData.{samples_in}
use Rattle.module_metrics.proofs.state_metrics.status_samples.Given as goal

-- the lanes so far
abbrev pub invariant-loop-index : goal.invariant-loop-index
invariant-loop-index l = samples_in l.samples ≡ map (status_sample) (enumerate_from 1 (take l.index l.states))
