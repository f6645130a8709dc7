-- The metrics of a report's amounts: of the module, of each lane, and of each limit. (docs/formats.md, "Metrics"; this project's
-- own)
use Rattle.std.specs.Prelude.{ℕ, ℤ, List, [], ◌∷◌, map, codes}
use Rattle.std.specs.Fmt.{decimal}
use Rattle.std.specs.List.{enumerate_from}
use Rattle.field_tables.specs.declared.readings.PerLimit.{PerLimit}
use Rattle.report_entries.specs.declared.flag.LimitKind.{LimitKind}
use Rattle.report_entries.specs.declared.flag.LimitKind.TheVariants.{HighAlarm, LowAlarm, HighWarning, LowWarning}
use Rattle.report_entries.specs.declared.printed_unit.PrintedUnit.{PrintedUnit}
use Rattle.report_entries.specs.FlagNames.{limit_name}
use Rattle.module_metrics.specs.BaseUnits.{places}
use Rattle.module_metrics.specs.Exposition.{Metric, Sample, label, metric, sample}
use Rattle.module_metrics.specs.MetricNames.{amount_help, amount_name}
use Rattle.module_metrics.specs.declared.name.Scope.{Scope}
use Rattle.module_metrics.specs.declared.name.Scope.TheVariants.{Module, Lane, Limit}

-- of this scope, from the line of a report with this name
abbrev pub amount_metric : Scope → List ℕ → PrintedUnit → List Sample → Metric
amount_metric scope name unit samples = metric (amount_name scope name unit) (amount_help scope name unit) samples

unfoldable pub module_metric : List ℕ → PrintedUnit → ℤ → Metric
module_metric name unit millis = amount_metric Module name unit (sample [] millis (places unit) ∷ [])

-- ---- lanes

unfoldable pub lane_sample : PrintedUnit → ℕ × ℤ → Sample
lane_sample unit l = sample (label (codes "lane") (decimal l.0) ∷ []) l.1 (places unit)

-- lane 1 first
abbrev pub lane_samples : PrintedUnit → List ℤ → List Sample
lane_samples unit values = map (lane_sample unit) (enumerate_from 1 values)

unfoldable pub lanes_metric : List ℕ → PrintedUnit → List ℤ → Metric
lanes_metric name unit values = amount_metric Lane name unit (lane_samples unit values)

-- ---- limits

unfoldable pub limit_sample : PrintedUnit → LimitKind → ℤ → Sample
limit_sample unit limit millis = sample (label (codes "limit") (limit_name limit) ∷ []) millis (places unit)

abbrev pub limit_samples : PrintedUnit → PerLimit ℤ → List Sample
limit_samples unit levels =
    limit_sample unit HighAlarm levels.high_alarm
    ∷ limit_sample unit LowAlarm levels.low_alarm
    ∷ limit_sample unit HighWarning levels.high_warning
    ∷ limit_sample unit LowWarning levels.low_warning
    ∷ []

unfoldable pub limits_metric : List ℕ → PrintedUnit → PerLimit ℤ → Metric
limits_metric name unit levels = amount_metric Limit name unit (limit_samples unit levels)
