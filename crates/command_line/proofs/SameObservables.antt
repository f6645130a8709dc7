-- Observables of what is read over a bus are those of the image, if it has no other statistics (VDM) than those that its banks advertise.
use Rattle.std.proofs.Common.{◌≡◌, ◌∙◌, ℕ, Bool, true, false, List, Result, Ok, Err, refl, ap}
use Rattle.text_lines.specs.Lines.{lines_of, text_of}
use Rattle.paged_memory.specs.Images.{Memory}
use Rattle.paged_memory.specs.ImageText.{IsTextOf}
use Rattle.report_entries.specs.EntryJson.{json_text}
use Rattle.reports.specs.Families.{detail_fault}
use Rattle.reports.specs.declared.fault.ReportFault.{ReportFault}
use Rattle.observable_reports.specs.SameObservables.{AreToldAlike}
use Rattle.observable_reports.specs.SameStatistics.{HasOwnStatistics}
use Rattle.observable_reports.proofs.WholeObservables.{observables_whole}
use Rattle.command_line.specs.Coloring.{shown_as}
use Rattle.command_line.specs.OverBus.{IsObservedFrom, window_at_start}
use Rattle.command_line.specs.ReportCommands.{IsReported, Reported, answer_of_reported, observed_text, report_of, text_unless}
use Rattle.command_line.specs.Runs.{Answer}
use Rattle.command_line.specs.SameOverBus.{AreReportedAlike, IsGivenUp, image_of, over_bus}
use Rattle.command_line.specs.declared.choice.commands.CommandName.TheVariants as name
use Rattle.command_line.specs.declared.choice.options.Options.{Options}
use Rattle.command_line.specs.declared.fault.Fault.TheVariants as fault
use Rattle.command_line.proofs.FollowedAnswers.{observing_fault}
use Rattle.command_line.proofs.SameOverBus.{IsAnswerOver, alone, err_to, reported_of_copy}

text_same : (copy memory : Memory) → AreToldAlike copy memory → (json : Bool) → observed_text json copy ≡ observed_text json memory
text_same copy memory told true = ap json_text told.json
text_same copy memory told false = ap text_of told.lines

module _ (options : Options) where
  abbrev reported_of : Bool → Result Memory ReportFault → Reported
  reported_of over = report_of (record options { bus = over }) detail_fault observed_text

  abbrev OwnAlone : List ℕ → Type 0
  OwnAlone text = (memory : Memory) → IsTextOf (lines_of text) memory → HasOwnStatistics memory

  plain : (text : List ℕ) (a : Answer) → OwnAlone text → IsReported IsObservedFrom true (reported_of true) text a → ¬ (IsGivenUp a) → IsReported IsObservedFrom false (reported_of false) text a
  plain text (Err (fault.Image f)) own first ended = first
  plain text a own (read, is, same) ended =
      let copy = reported_of_copy IsObservedFrom reported_of observing_fault text a read is same refl ended in
      let memory = copy.memory in
      let told = observables_whole (window_at_start memory) copy.is_read.0 memory copy.copy copy.is_text.image (own memory copy.is_text) refl copy.is_read.1 in
      let text_is = text_same copy.copy memory told options.json in
      (Ok memory, copy.is_text, copy.is_reported ∙ (λ i. answer_of_reported (text_unless (told.fault i) (shown_as options.coloring options.json (text_is i)))))

  plain_to : (input : List ℕ) (a : Answer) → OwnAlone (image_of input) → IsAnswerOver IsObservedFrom reported_of true input a → ¬ (IsGivenUp a) → IsAnswerOver IsObservedFrom reported_of false input a
  plain_to input (Ok t) own is ended = (is.0, is.1, plain (image_of input) (Ok t) own is.2 ended)
  plain_to input (Err f) own is ended = err_to IsObservedFrom reported_of input f (λ mine. plain (image_of input) (Err f) own mine ended) is

  pub observables_reported_alike : AreReportedAlike (over_bus name.Observables options)
  observables_reported_alike input a own is ended memory read =
      let plain = plain_to input a own is ended in record { plain = plain; alone = λ other. alone IsObservedFrom reported_of input a other plain memory read }
