-- The answer of a command that reports, by what there is to report of and what is reported of it.
use Rattle.std.proofs.Common.{◌≡◌, ℕ, Bool, List, Option, Result, Ok, Err, refl, ap, sym, inl, inr}
use Rattle.paged_memory.specs.Images.{Memory}
use Rattle.reports.specs.declared.fault.ReportFault.{ReportFault}
use Rattle.command_line.specs.OverBus.{IsInputRefusal, IsReading}
use Rattle.command_line.specs.ReportCommands.{IsReported, IsReportedAs, Reported, answer_of_reported, report_of}
use Rattle.command_line.specs.Runs.{Answer, IsOwnAnswer}
use Rattle.command_line.specs.declared.choice.options.Options.{Options}
use Rattle.command_line.specs.declared.fault.Fault.{Fault}
use Rattle.command_line.specs.declared.fault.Fault.TheVariants as fault

module _ (IsRead : Memory → Result Memory ReportFault → Type 0) (bus : Bool) (reported : Result Memory ReportFault → Reported) (image : List ℕ) (read : Result Memory ReportFault) (is : IsReading IsRead bus image read) where
  as_reported : (t : Reported) → reported read ≡ t → IsOwnAnswer (IsReported IsRead bus reported image) (answer_of_reported t)
  as_reported (Ok text) same = (read, is, ap answer_of_reported (sym same))
  as_reported (Err f) same = (read, is, ap answer_of_reported (sym same))

  pub report_answered : (answer : Answer) → IsReportedAs (reported read) answer → IsOwnAnswer (IsReported IsRead bus reported image) answer
  report_answered answer (inl memory) = rw memory tt
  report_answered answer (inr same) = rw same (as_reported (reported read) refl)

-- why there is nothing to report of is the answer of a report
pub input_refused : (IsRead : Memory → Result Memory ReportFault → Type 0) (bus : Bool) (options : Options) (refusal : Memory → Option ReportFault) (printed_of : Bool → Memory → List ℕ) (image : List ℕ) (f : Fault)
    → IsInputRefusal IsRead bus image f → IsOwnAnswer (IsReported IsRead bus (report_of options refusal printed_of) image) (Err f)
input_refused IsRead bus options refusal printed_of image fault.Memory is = tt
input_refused IsRead bus options refusal printed_of image (fault.Image f) is = is
input_refused IsRead bus options refusal printed_of image (fault.Report f) is = (Err f, is, refl)
input_refused IsRead bus options refusal printed_of image f is = absurd is
