use Rattle.std.proofs.Common.{◌≡◌, ◌++◌, map, take}
use Rattle.std.specs.List.{flat_map}
use Rattle.report_entries.specs.Entries.{entry_of}
use Rattle.module_metrics.specs.ModuleMetrics.{entry_sums}
use Rattle.module_metrics.specs.MetricData.{samples_in}
use Rattle.module_metrics.proofs.module_metrics.add_sums_of.Given as goal

-- the sums so far
abbrev pub invariant-loop-entry : goal.invariant-loop-entry
invariant-loop-entry l = samples_in l.samples ≡ samples_in l.initial.samples ++ flat_map entry_sums (map entry_of (take l.entry-index l.entries))
