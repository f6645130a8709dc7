-- Details of what is read over a bus are those of the image, but for statistics (VDM) that their bank doesn't advertise.
use Rattle.std.proofs.Common.{◌≡◌, ◌≢◌, ◌∙◌, ℕ, Bool, true, false, List, Option, Some, None, Result, Ok, Err, refl, sym, ap}
use Rattle.paged_memory.specs.Images.{Memory}
use Rattle.paged_memory.specs.ImageText.{IsImage}
use Rattle.observable_reports.specs.Details.{details_text}
use Rattle.observable_reports.specs.ListedInstances.{all_listed}
use Rattle.observable_reports.specs.SameStatistics.{HasOwnStatistics}
use Rattle.observable_reports.proofs.ListedInstances.{listed_same}
use Rattle.observable_reports.proofs.WholeStatistics.{advertised_read, observed_reports, whole_read}
use Rattle.observable_reports.proofs.WindowStatistics.{statistics_same}
use Rattle.reports.specs.Details.{details_entries, details_fault}
use Rattle.reports.specs.SameReports.{IsSame}
use Rattle.reports.specs.declared.fault.ReportFault.{ReportFault}
use Rattle.command_line.specs.OverBus.{IsObservedFrom, window_at_start}
use Rattle.command_line.specs.ReportCommands.{IsReported, Reported, answer_of_reported, report_of, text_unless}
use Rattle.command_line.specs.Runs.{Answer}
use Rattle.command_line.specs.SameOverBus.{AreReportedAlike, AreReportedBefore, IsFollowed, IsGivenUp, IsPlainAnswer, details_with, image_of, over_bus}
use Rattle.command_line.specs.declared.choice.commands.CommandName.TheVariants as name
use Rattle.command_line.specs.declared.choice.commands.Request.{Request}
use Rattle.command_line.specs.declared.choice.options.Options.{Options}
use Rattle.command_line.specs.declared.fault.Fault.{Fault}
use Rattle.command_line.specs.declared.fault.Fault.TheVariants as fault
use Rattle.command_line.specs.declared.reported_fault.ReportedFault.{ReportedFault}
use Rattle.command_line.proofs.FollowedAnswers.{alike, fault_in, observing_fault, text_in}
use Rattle.command_line.proofs.SameOverBus.{IsAnswerOver, IsReportedOfCopy, alone, err_to, reported_of_copy}

-- ---- what was read

-- what stands at fixed places is told alike
details_same : (memory copy : Memory) → IsImage memory → IsObservedFrom memory (Ok copy) → IsSame details_fault details_entries copy memory
details_same memory copy image (after, is) = (observed_reports (window_at_start memory) after memory copy image refl is).details

own_same : (memory copy : Memory) → IsImage memory → IsObservedFrom memory (Ok copy) → HasOwnStatistics memory → all_listed copy ≡ all_listed memory
own_same memory copy image (after, is) own = listed_same copy memory (whole_read (window_at_start memory) after memory copy image own refl is)

module _ (options : Options) where
  abbrev reported_of : Bool → Result Memory ReportFault → Reported
  reported_of over = report_of (record options { bus = over }) details_fault details_text

  abbrev request : Bool → Request
  request = over_bus name.Details options

  abbrev told_of : Memory → List ℕ
  told_of memory = details_with options (details_entries memory) (all_listed memory)

  abbrev OfCopy : List ℕ → Answer → Type 0
  OfCopy = IsReportedOfCopy IsObservedFrom reported_of

  whole : (input : List ℕ) (a : Answer) → IsAnswerOver IsObservedFrom reported_of false input a → a ≢ Err fault.Memory → a ≢ Err fault.Io → IsPlainAnswer request input a
  whole input a is memory read = record { plain = is; alone = λ other. alone IsObservedFrom reported_of input a other is memory read }

  -- ---- a text

  copy_of : (text t : List ℕ) (f : Option ReportedFault) → IsReported IsObservedFrom true (reported_of true) text (Ok (t, f)) → ¬ (IsGivenUp (Ok (t, f))) → OfCopy text (Ok (t, f))
  copy_of text t f (read, is, same) ended = reported_of_copy IsObservedFrom reported_of observing_fault text (Ok (t, f)) read is same refl ended

  module _ (input t : List ℕ) (f : Option ReportedFault) (is : IsAnswerOver IsObservedFrom reported_of true input (Ok (t, f))) (copy : OfCopy (image_of input) (Ok (t, f))) where
    told : (o : Option ReportFault) → details_fault copy.copy ≡ o → Ok (t, f) ≡ answer_of_reported (text_unless o (told_of copy.copy)) → IsFollowed all_listed (details_with options) request input t f
    told None none same =
        let memory = copy.memory in
        let entries = details_entries copy.copy in
        let details = details_same memory copy.copy copy.is_text.image copy.is_read in
        let none_too : None ≡ details_fault memory = sym none ∙ details.fault in
        let entries_too : entries ≡ details_entries memory = details.content none in
        let fault_is : f ≡ None = ap fault_in same in
        let more : Answer = Ok (details_with options entries (all_listed memory), f) in
        let plain : more ≡ answer_of_reported (reported_of false (Ok memory)) =
        (λ i. Ok (details_with options entries (all_listed memory), fault_is i)) ∙ (λ i. answer_of_reported (text_unless (none_too i) (details_with options (entries_too i) (all_listed memory)))) in
        record {
          memory = memory;
          read = copy.copy;
          beside = entries;
          is_image = copy.is_text;
          is_text = ap text_in same;
          whole = whole input more (is.0, is.1, (Ok memory, copy.is_text, plain)) (λ clash. cc) (λ clash. cc);
          pages = statistics_same (window_at_start memory) copy.is_read.0 memory copy.copy copy.is_text.image refl copy.is_read.1;
          advertised = advertised_read (window_at_start memory) copy.is_read.0 memory copy.copy copy.is_text.image refl copy.is_read.1;
          own = own_same memory copy.copy copy.is_text.image copy.is_read;
        }
    told (Some g) some same = absurd cc

  followed : (input t : List ℕ) (f : Option ReportedFault) → IsAnswerOver IsObservedFrom reported_of true input (Ok (t, f)) → ¬ (IsGivenUp (Ok (t, f))) → IsFollowed all_listed (details_with options) request input t f
  followed input t f is ended =
      let copy = copy_of (image_of input) t f is.2 ended in
      told input t f is copy (details_fault copy.copy) refl copy.is_reported

  -- ---- a fault

  module _ (text : List ℕ) (f : Fault) (copy : OfCopy text (Err f)) where
    refused_by : (o : Option ReportFault) → details_fault copy.copy ≡ o → Err f ≡ answer_of_reported (text_unless o (told_of copy.copy)) → Err f ≡ answer_of_reported (reported_of false (Ok copy.memory))
    refused_by None none same = absurd cc
    refused_by (Some g) some same =
        let some_too : Some g ≡ details_fault copy.memory = sym some ∙ (details_same copy.memory copy.copy copy.is_text.image copy.is_read).fault in
        same ∙ (λ i. answer_of_reported (text_unless (some_too i) (told_of copy.memory)))

  refused : (text : List ℕ) (f : Fault) → IsReported IsObservedFrom true (reported_of true) text (Err f) → ¬ (IsGivenUp (Err f)) → IsReported IsObservedFrom false (reported_of false) text (Err f)
  refused text (fault.Image f) first ended = first
  refused text f (read, is, same) ended =
      let copy = reported_of_copy IsObservedFrom reported_of observing_fault text (Err f) read is same refl ended in
      (Ok copy.memory, copy.is_text, refused_by text f copy (details_fault copy.copy) refl copy.is_reported)

  pub details_reported_before : AreReportedBefore all_listed (details_with options) (over_bus name.Details options)
  details_reported_before input (Ok (t, f)) is ended memory read = followed input t f is ended
  details_reported_before input (Err f) is ended memory read =
      whole input (Err f) (err_to IsObservedFrom reported_of input f (λ mine. refused (image_of input) f mine ended) is) memory read

  pub details_reported_alike : AreReportedAlike (over_bus name.Details options)
  details_reported_alike = alike all_listed (details_with options) request details_reported_before
