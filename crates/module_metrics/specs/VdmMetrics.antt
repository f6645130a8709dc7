-- The metrics of what a CMIS module lists itself: the values of each quantity and figure, and their limits. (OIF-CMIS-05.0, "Versatile
-- Diagnostics Monitoring"; docs/formats.md, "Metrics"; this project's own)
use Rattle.std.specs.Prelude.{ℕ, ◌==◌, ◌&&◌, Bool, true, false, if◌then◌else◌, List, [], ◌∷◌, ◌++◌, Option, Some, None, option_and_then, codes}
use Rattle.std.specs.Fmt.{decimal}
use Rattle.std.specs.List.{flat_map}
use Rattle.paged_memory.specs.Images.{Memory}
use Rattle.observables.specs.Names.{lane_of, scope_name}
use Rattle.observables.specs.Numbers.{figure_number, quantity_number}
use Rattle.observables.specs.Quantities.{quantity_row}
use Rattle.observables.specs.declared.amount.Amount.{Amount}
use Rattle.observables.specs.declared.observable.Observable.{Observable}
use Rattle.observables.specs.declared.observation.Observation.{Observation}
use Rattle.observable_reports.specs.AmountTexts.{shown_as}
use Rattle.observable_reports.specs.ListedInstances.{all_listed}
use Rattle.observable_reports.specs.declared.listed_instances.Seen.{Seen}
use Rattle.report_entries.specs.declared.flag.LimitKind.{LimitKind}
use Rattle.report_entries.specs.declared.flag.LimitKind.TheVariants.{HighAlarm, LowAlarm, HighWarning, LowWarning}
use Rattle.report_entries.specs.FlagNames.{limit_name}
use Rattle.reports.specs.Families.{detail_fault}
use Rattle.module_metrics.specs.Exposition.{Label, Metric, Sample, label, metric}
use Rattle.module_metrics.specs.FlagMetrics.{lane_labels}
use Rattle.module_metrics.specs.Numbers.{Number, number_of}
use Rattle.module_metrics.specs.Unless.{unless}
use Rattle.module_metrics.specs.VdmNames.{measures, vdm_help, vdm_name}
use Rattle.module_metrics.specs.VdmUnits.{power_of}
use Rattle.module_metrics.specs.declared.vdm_name.Measure.{Measure}

-- ---- what is seen

-- of a module that is read
unfoldable pub vdm_seen : Memory → List Seen
vdm_seen memory = unless (detail_fault memory) (all_listed memory)

-- ---- samples

abbrev pub is_of : Measure → Observable → Bool
is_of of observable =
    quantity_number observable.quantity == quantity_number of.quantity && figure_number observable.figure == figure_number of.figure

-- in the unit of the metric, if the amount is known
abbrev pub number_seen : Observation → Option Amount → Option Number
number_seen seen amount =
    option_and_then (λ known. number_of (shown_as (quantity_row seen.observable.quantity).format known) (power_of (quantity_row seen.observable.quantity).unit)) amount

abbrev pub number_labels : ℕ → List Label
number_labels number = label (codes "vdm_instance") (decimal number) ∷ []

abbrev pub place_labels : Observation → List Label
place_labels seen = lane_labels (lane_of seen.subject) ++ label (codes "scope") (scope_name seen.subject seen.observable.side) ∷ []

-- none without a number
abbrev pub number_samples : List Label → Option Number → List Sample
number_samples labels None = []
number_samples labels (Some number) = record { labels = labels; number = number } ∷ []

unfoldable pub value_sample : Measure → Seen → List Sample
value_sample of seen =
    if is_of of seen.observation.observable then
    number_samples (number_labels seen.number ++ place_labels seen.observation) (number_seen seen.observation seen.observation.amount)
    else []

unfoldable pub limit_sample : Seen → LimitKind → Option Amount → List Sample
limit_sample seen limit level =
    number_samples ((number_labels seen.number ++ label (codes "limit") (limit_name limit) ∷ []) ++ place_labels seen.observation) (number_seen seen.observation level)

unfoldable pub limit_samples : Measure → Seen → List Sample
limit_samples of seen =
    if is_of of seen.observation.observable then
    limit_sample seen HighAlarm seen.observation.limits.high_alarm
    ++ (limit_sample seen LowAlarm seen.observation.limits.low_alarm
    ++ (limit_sample seen HighWarning seen.observation.limits.high_warning
    ++ limit_sample seen LowWarning seen.observation.limits.low_warning))
    else []

-- ---- metrics

-- none without samples
abbrev pub some_metrics : Bool → Measure → List Sample → List Metric
some_metrics limits of [] = []
some_metrics limits of (s ∷ samples) = metric (vdm_name limits of) (vdm_help limits of) (s ∷ samples) ∷ []

abbrev pub values_metrics : List Seen → Measure → List Metric
values_metrics seen of = some_metrics false of (flat_map (value_sample of) seen)

abbrev pub limits_metrics : List Seen → Measure → List Metric
limits_metrics seen of = some_metrics true of (flat_map (limit_samples of) seen)

abbrev pub measure_metrics : List Seen → Measure → List Metric
measure_metrics seen of = values_metrics seen of ++ limits_metrics seen of

unfoldable pub vdm_metrics : List Seen → List Metric
vdm_metrics seen = flat_map (measure_metrics seen) measures
