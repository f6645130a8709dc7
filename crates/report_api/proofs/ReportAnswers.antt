-- The answer to an image, by what making its report answers.
use Rattle.std.proofs.Common.{◌≡◌, ◌∙◌, ℕ, Bool, true, List, [], Option, Some, None, Ok, Err, refl, ap, ◌⊎◌, inl, inr}
use Rattle.std.specs.Prelude.{Vec}
use Rattle.std.specs.declared.alloc.Global.{Global}
use Rattle.text_lines.specs.Lines.{lines_of}
use Rattle.paged_memory.specs.Images.{Memory as Image}
use Rattle.paged_memory.specs.ImageText.{IsTextOf}
use Rattle.json.specs.Json.{Json}
use Rattle.report_entries.specs.EntryJson.{json_text}
use Rattle.observable_reports.specs.Answered.{AnswersJson}
use Rattle.observable_reports.specs.Details.{details_json, details_text}
use Rattle.reports.specs.Details.{details_fault}
use Rattle.module_metrics.specs.Answers.{metrics_of}
use Rattle.module_metrics.specs.Exposition.{Label, exposition}
use Rattle.reports.specs.declared.fault.ReportFault.{ReportFault}
use Rattle.reports.specs.declared.fault.ReportFault.TheVariants as report
use Rattle.report_api.specs.Answers.{fault_of_report}
use Rattle.report_api.specs.ReportTexts.{IsDetails, IsMetricsOf, IsReport}

-- a fault that is `Memory`, or that of an image
pub refused : (refusal : Image → Option ReportFault) (text_of : Image → List ℕ) (given : List ℕ) (image : Image) → IsTextOf (lines_of given) image
    → (f : ReportFault) → (f ≡ report.Memory) ⊎ (refusal image ≡ Some f) → IsReport refusal text_of given (Err (fault_of_report f))
refused refusal text_of given image read report.Memory h = tt
refused refusal text_of given image read f (inl same) = absurd cc
refused refusal text_of given image read f (inr is) = (image, read, is)

-- what is known of a report as JSON
json_refused : (o : Option ReportFault) (value : Json) (f : ReportFault) → AnswersJson o value (Err f) → (f ≡ report.Memory) ⊎ (o ≡ Some f)
json_refused None value f h = inl h
json_refused (Some g) value f h = inr cc

json_told : (o : Option ReportFault) (value : Json) (text : Vec ℕ Global) → AnswersJson o value (Ok text)
    → (o ≡ None) × (text.items ≡ json_text value)
json_told None value text h = (refl, h.spelled)
json_told (Some f) value text h = absurd cc

module _ (given : List ℕ) (image : Image) (read : IsTextOf (lines_of given) image) where
  pub details_refused : (f : ReportFault) → AnswersJson (details_fault image) (details_json image) (Err f) → IsDetails given (Err (fault_of_report f))
  details_refused f h =
      refused details_fault (details_text true) given image read f (json_refused (details_fault image) (details_json image) f h)

  pub details_told : (text : Vec ℕ Global) → AnswersJson (details_fault image) (details_json image) (Ok text) → IsDetails given (Ok text.items)
  details_told text h =
      let told = json_told (details_fault image) (details_json image) text h in
      (image, read, told.0, told.1)

  -- without labels of one's own
  pub metrics_told : (all : Bool) (labels : List Label) (text : List ℕ) → labels ≡ [] → text ≡ exposition labels (metrics_of all image) → IsMetricsOf all given (Ok text)
  metrics_told all labels text none is = (image, read, refl, is ∙ ap (λ (l : List Label). exposition l (metrics_of all image)) none)
