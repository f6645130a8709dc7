use Rattle.std.proofs.Common.{◌≡◌, ◌++◌, drop, map}
use Rattle.module_metrics.specs.Exposition.{marked}
use Rattle.module_metrics.specs.MetricData.{label_of}
use Rattle.module_metrics.proofs.exposition.push_marked.Given as goal

-- the labels so far, with those that are left, are all
abbrev pub invariant-loop-label : goal.invariant-loop-label
invariant-loop-label l =
    l.text.items ++ marked l.is_first (map label_of (drop l.label-index l.labels)) ≡ l.initial.text.items ++ marked l.initial.is_first (map label_of l.labels)
