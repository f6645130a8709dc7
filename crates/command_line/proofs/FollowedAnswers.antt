-- Where an answer over a bus tells of the statistics (VDM) that were read, it is the one without, if the image has no others.
use Rattle.std.proofs.Common.{◌≡◌, ◌∙◌, ℕ, Bool, List, [], Option, None, Ok, Err, sym, ap, subst, arith}
use Rattle.bus_model.specs.ScriptedBus.{script_rules}
use Rattle.paged_memory.specs.Images.{Memory}
use Rattle.paged_memory.specs.Windows.{window_conduct}
use Rattle.observable_reports.specs.declared.listed_instances.Seen.{Seen}
use Rattle.observable_reports.proofs.ObservingFaults.{observing_gives_up}
use Rattle.reports.specs.declared.fault.ReportFault.{ReportFault}
use Rattle.reports.specs.declared.fault.ReportFault.TheVariants as report
use Rattle.command_line.specs.OverBus.{IsObservedFrom, window_at_start}
use Rattle.command_line.specs.Runs.{Answer}
use Rattle.command_line.specs.SameOverBus.{AreReportedAlike, AreReportedBefore, IsPlainAnswer}
use Rattle.command_line.specs.declared.choice.commands.Request.{Request}
use Rattle.command_line.specs.declared.reported_fault.ReportedFault.{ReportedFault}

-- the bus has room for all readings, so they have one fault
pub observing_fault : (memory : Memory) (f : ReportFault) → IsObservedFrom memory (Err f) → f ≡ report.GaveUp
observing_fault memory f (after, is) = observing_gives_up (script_rules window_conduct) (window_at_start memory) (omega arith) after f is

abbrev pub text_in : Answer → List ℕ
text_in (Ok (text, reported)) = text
text_in (Err f) = []

abbrev pub fault_in : Answer → Option ReportedFault
fault_in (Ok (text, reported)) = reported
fault_in (Err f) = None

module _ {T : Type 0} (seen_in : Memory → List Seen) (printed : T → List Seen → List ℕ) (request : Bool → Request) where
  pub alike : AreReportedBefore seen_in printed request → AreReportedAlike request
  alike before input (Ok (t, f)) own is ended memory read =
      let followed = before input (Ok (t, f)) is ended memory read in
      let same : printed followed.beside (seen_in followed.memory) ≡ t =
      ap (λ (seen : List Seen). printed followed.beside seen) (sym (followed.own (own followed.memory followed.is_image))) ∙ sym followed.is_text in
      subst (λ (text : List ℕ). IsPlainAnswer request input (Ok (text, f))) same followed.whole
  alike before input (Err f) own is ended memory read = before input (Err f) is ended memory read
