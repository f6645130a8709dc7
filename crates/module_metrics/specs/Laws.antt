-- What holds of all metrics: their words are those of the format, and each metric and each series stands once. (docs/formats.md,
-- "Metrics"; Prometheus' text-based format, version 0.0.4; this project's own)
use Rattle.std.specs.Prelude.{◌≡◌, ℕ, Bool, ℤ, FitsSigned, List, Some}
use Rattle.std.specs.Int.{w64}
use Rattle.std.specs.List.{AllByRecursion}
use Rattle.paged_memory.specs.Images.{Memory}
use Rattle.report_entries.specs.Shown.{thousandths}
use Rattle.module_metrics.specs.AddedLabels.{AreAdded}
use Rattle.module_metrics.specs.Answers.{metrics_of}
use Rattle.module_metrics.specs.Exposition.{Label, escaped, metrics_lines}
use Rattle.module_metrics.specs.FormatLines.{IsLine}
use Rattle.module_metrics.specs.Grammar.{unquoted}
use Rattle.module_metrics.specs.Scaled.{Writes, scaled}
use Rattle.module_metrics.specs.WellFormed.{AreMetrics}

-- what is written of a value between quotes is read as the value
abbrev pub EachValueReadsBack : Type 0
EachValueReadsBack = (value : List ℕ) → unquoted (escaped value) ≡ Some value

-- what is written of a number writes it
abbrev pub EachNumberIsWritten : Type 0
EachNumberIsWritten = (places : ℕ) (z : ℤ) → FitsSigned w64 z → Writes (scaled places z) z places

-- in thousandths it is the report's
abbrev pub EachAmountIsTheReports : Type 0
EachAmountIsTheReports = (z : ℤ) → FitsSigned w64 z → Writes (thousandths z) z 3

-- whatever labels were added, whatever is in memory
abbrev pub EveryModulesMetricsAreRight : Type 0
EveryModulesMetricsAreRight =
    (common : List Label) (all : Bool) (memory : Memory) → AreAdded common → AreMetrics common (metrics_of all memory)

-- of help, of a type, or of a sample
abbrev pub EachLineIsOne : Type 0
EachLineIsOne =
    (common : List Label) (all : Bool) (memory : Memory) → AreAdded common
    → AllByRecursion IsLine (metrics_lines common (metrics_of all memory))
