-- The metrics that the code has as data, with their texts and lists. (This project's own.)
use Rattle.std.specs.Prelude.{List, map, Vec}
use Rattle.std.specs.String.{string_bytes}
use Rattle.std.specs.declared.alloc.Global.{Global}
use Rattle.module_metrics.specs.Exposition.{Label, Metric, Sample}
use Rattle.module_metrics.specs.Numbers.{Number, float, fraction, parts}
use Rattle.module_metrics.specs.Scales.{places_of}
use Rattle.module_metrics.specs.declared.metric.Label as rust_label
use Rattle.module_metrics.specs.declared.metric.Metric as rust_metric
use Rattle.module_metrics.specs.declared.metric.Sample as rust_sample
use Rattle.module_metrics.specs.declared.number.Number as rust_number
use Rattle.module_metrics.specs.declared.number.Number.TheVariants as numbers

abbrev pub label_of : rust_label.Label → Label
label_of l = record { key = string_bytes l.key; value = string_bytes l.value }

unfoldable pub labels_in : Vec rust_label.Label Global → List Label
labels_in labels = map label_of labels.items

abbrev pub number_in : rust_number.Number → Number
number_in (numbers.Parts z scale) = parts z (places_of scale)
number_in (numbers.Float number) = float number
number_in (numbers.Fraction number power) = fraction number power

abbrev pub sample_of : rust_sample.Sample → Sample
sample_of s = record { labels = labels_in s.labels; number = number_in s.number }

unfoldable pub samples_in : Vec rust_sample.Sample Global → List Sample
samples_in samples = map sample_of samples.items

abbrev pub metric_of : rust_metric.Metric → Metric
metric_of m = record { name = string_bytes m.name; help = string_bytes m.help; samples = samples_in m.samples }

unfoldable pub metrics_in : Vec rust_metric.Metric Global → List Metric
metrics_in metrics = map metric_of metrics.items
