-- Each line of well formed metrics is one of the format.
use Rattle.std.proofs.Common.{◌≡◌, inl, inr, ℕ, true, List, [], ◌∷◌, ◌++◌, map, refl}
use Rattle.std.specs.List.{AllByRecursion}
use Rattle.module_metrics.specs.Answers.{metrics_of}
use Rattle.module_metrics.specs.Exposition.{Label, Metric, Sample, metric_lines, metrics_lines, sample_line}
use Rattle.module_metrics.specs.FormatLines.{IsLine}
use Rattle.module_metrics.specs.Grammar.{is_name}
use Rattle.module_metrics.specs.Laws.{EachLineIsOne}
use Rattle.module_metrics.specs.WellFormed.{AreLabels, IsMetric}
use Rattle.module_metrics.proofs.FamiliesRight.{every_module_right}
use Rattle.module_metrics.proofs.RowMetrics.{both}
use Rattle.module_metrics.proofs.ContentMetrics.{labels_of}

samples_are : (common : List Label) (name : List ℕ) → is_name name ≡ true → (samples : List Sample)
    → AllByRecursion (λ (labels : List Label). AreLabels (common ++ labels)) (map labels_of samples) → AllByRecursion IsLine (map (sample_line name common) samples)
unfolding sample_line
samples_are common name named [] all = tt
samples_are common name named (s ∷ samples) all = (
  inr (inr (record { name = name; labels = common ++ s.labels; number = s.number; named = named; labelled = all.0; is_line = refl })),
  samples_are common name named samples all.1,
)

metric_are : (common : List Label) (m : Metric) → IsMetric common m → AllByRecursion IsLine (metric_lines common m)
metric_are common m right = (
  inl (record { name = m.name; help = m.help; named = right.named; helped = right.helped; is_line = refl }),
  (inr (inl (record { name = m.name; named = right.named; is_line = refl })), samples_are common m.name right.named m.samples right.labelled),
)

metrics_are : (common : List Label) (metrics : List Metric) → AllByRecursion (IsMetric common) metrics → AllByRecursion IsLine (metrics_lines common metrics)
metrics_are common [] all = tt
metrics_are common (m ∷ metrics) all = both IsLine (metric_lines common m) (metrics_lines common metrics) (metric_are common m all.0) (metrics_are common metrics all.1)

pub each_line_is_one : EachLineIsOne
each_line_is_one common all memory added =
    metrics_are common (metrics_of all memory) ((every_module_right common all memory added).each)
