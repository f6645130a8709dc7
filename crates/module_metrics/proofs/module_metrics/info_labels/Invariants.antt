use Rattle.std.proofs.Common.{◌≡◌, map, take}
use Rattle.report_entries.specs.Entries.{entry_of}
use Rattle.module_metrics.specs.ModuleMetrics.{info_labels}
use Rattle.module_metrics.specs.MetricData.{labels_in}
use Rattle.module_metrics.proofs.module_metrics.info_labels.Given as goal

-- the labels so far
abbrev pub invariant-loop-entry : goal.invariant-loop-entry
invariant-loop-entry l = labels_in l.labels ≡ info_labels (map entry_of (take l.entry-index l.entries))
