use Rattle.std.proofs.Common.{◌≡◌, ◌++◌, map, take}
use Rattle.text_lines.specs.Lines.{text_of}
use Rattle.module_metrics.specs.Exposition.{sample_line}
use Rattle.module_metrics.specs.MetricData.{label_of, sample_of}
use Rattle.module_metrics.proofs.exposition.push_samples.Given as goal

-- the samples so far
abbrev pub invariant-loop-sample : goal.invariant-loop-sample
invariant-loop-sample l = l.text.items ≡ l.initial.text.items ++ text_of (map (sample_line l.name (map label_of l.common)) (map sample_of (take l.sample-index l.samples)))
