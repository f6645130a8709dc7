-- The reports of the module of an image that is given as a text. (docs/formats.md, "Image", "details", "JSON" and "Metrics"; this
-- project's own)
use Rattle.std.specs.Prelude.{◌≡◌, ℕ, ◌==◌, not, Bool, true, List, [], Option, Some, None, Ok, Err}
use Rattle.text_lines.specs.Lines.{lines_of}
use Rattle.paged_memory.specs.Images.{Memory as Image}
use Rattle.paged_memory.specs.ImageText.{IsTextOf}
use Rattle.paged_memory.specs.ImageFaults.{IsFirstFault}
use Rattle.observable_reports.specs.Details.{details_text}
use Rattle.reports.specs.Details.{details_fault}
use Rattle.reports.specs.declared.fault.ReportFault.{ReportFault}
use Rattle.module_metrics.specs.Answers.{metrics_of}
use Rattle.module_metrics.specs.Exposition.{exposition}
use Rattle.report_api.specs.Answers.{Answer}
use Rattle.report_api.specs.declared.fault.Fault.TheVariants as fault

-- by why there is no report of an image, and what its text is; without memory there may be none of any
abbrev pub IsReport : (Image → Option ReportFault) → (Image → List ℕ) → List ℕ → Answer → Type 0
IsReport refusal text_of given (Ok text) = (image : Image) × IsTextOf (lines_of given) image × (refusal image ≡ None) × (text ≡ text_of image)
IsReport refusal text_of given (Err (fault.Report f)) = (image : Image) × IsTextOf (lines_of given) image × (refusal image ≡ Some f)
IsReport refusal text_of given (Err (fault.Image f)) = IsFirstFault (lines_of given) f
IsReport refusal text_of given (Err fault.Memory) = Unit {0}

abbrev pub IsDetails : List ℕ → Answer → Type 0
IsDetails = IsReport details_fault (details_text true)

-- faults of reports are among the metrics
abbrev pub IsMetricsOf : Bool → List ℕ → Answer → Type 0
IsMetricsOf all = IsReport (λ image. None) (λ image. exposition [] (metrics_of all image))

-- C has a number for whether all flags are wanted
abbrev pub IsMetrics : ℕ → List ℕ → Answer → Type 0
IsMetrics all = IsMetricsOf (not (all == 0))
