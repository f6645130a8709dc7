use Rattle.std.proofs.Common.{◌≡◌, ◌++◌, map, take}
use Rattle.std.specs.List.{flat_map}
use Rattle.report_entries.specs.Entries.{entry_of}
use Rattle.module_metrics.specs.ModuleMetrics.{entry_metrics}
use Rattle.module_metrics.specs.MetricData.{metrics_in}
use Rattle.module_metrics.proofs.module_metrics.add_entries.Given as goal

-- the metrics so far
abbrev pub invariant-loop-entry : goal.invariant-loop-entry
invariant-loop-entry l = metrics_in l.metrics ≡ metrics_in l.initial.metrics ++ flat_map (entry_metrics l.all l.each_flag) (map entry_of (take l.entry-index l.entries))
