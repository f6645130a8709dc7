-- Metrics of what is read over a bus are those of the image, but for statistics (VDM) that their bank doesn't advertise.
use Rattle.std.proofs.Common.{◌≡◌, ◌≢◌, ◌∙◌, ℕ, Bool, true, false, List, [], ◌∷◌, ◌++◌, Option, Result, Ok, Err, refl, sym, ap}
use Rattle.std.proofs.lemmas.Grind.{flat_map-append}
use Rattle.std.specs.Prelude.{option_map}
use Rattle.std.specs.Option.{option_or}
use Rattle.text_lines.specs.Lines.{text_of}
use Rattle.paged_memory.specs.Images.{Memory}
use Rattle.paged_memory.specs.ImageText.{IsImage}
use Rattle.module_decoding.specs.declared.report.Report.TheVariants.{Flags, Monitors}
use Rattle.module_metrics.specs.Answers.{code_of, first_fault, metrics_of, requested_flags}
use Rattle.module_metrics.specs.Exposition.{Label, Metric, exposition, metric_lines, metrics_lines}
use Rattle.module_metrics.specs.ModuleMetrics.{module_metrics}
use Rattle.module_metrics.specs.Unless.{unless}
use Rattle.module_metrics.specs.VdmMetrics.{vdm_metrics, vdm_seen}
use Rattle.module_metrics.proofs.SameListed.{listed_same}
use Rattle.observable_reports.specs.SameStatistics.{HasOwnStatistics}
use Rattle.observable_reports.proofs.WholeStatistics.{advertised_read, observed_lanes, observed_reports, whole_read}
use Rattle.observable_reports.proofs.WindowStatistics.{statistics_same}
use Rattle.reports.specs.Reports.{all_lanes_entries, all_lanes_flag_states, flags_fault, inventory_entries, inventory_fault, monitors_fault}
use Rattle.reports.specs.SameReports.{IsSame, ReportsSame}
use Rattle.reports.specs.declared.fault.ReportFault.{ReportFault}
use Rattle.reports.proofs.BesideFetched.{detail_fault_same}
use Rattle.command_line.specs.MetricsCommand.{metrics_reported}
use Rattle.command_line.specs.OverBus.{IsObservedFrom, window_at_start}
use Rattle.command_line.specs.ReportCommands.{IsReported, Reported}
use Rattle.command_line.specs.Runs.{Answer}
use Rattle.command_line.specs.SameOverBus.{AreReportedAlike, AreReportedBefore, IsFollowed, IsGivenUp, IsPlainAnswer, image_of, metrics_with, over_bus}
use Rattle.command_line.proofs.FollowedAnswers.{alike, fault_in, observing_fault, text_in}
use Rattle.command_line.specs.declared.choice.commands.CommandName.TheVariants as name
use Rattle.command_line.specs.declared.choice.commands.Request.{Request}
use Rattle.command_line.specs.declared.choice.options.Options.{Options}
use Rattle.command_line.specs.declared.fault.Fault.{Fault}
use Rattle.command_line.specs.declared.fault.Fault.TheVariants as fault
use Rattle.command_line.specs.declared.reported_fault.ReportedFault.{ReportedFault}
use Rattle.command_line.specs.declared.reported_fault.ReportedFault.TheVariants.{Metrics}
use Rattle.command_line.proofs.SameOverBus.{IsAnswerOver, IsReportedOfCopy, alone, err_to, reported_of_copy, same_reported}

-- ---- memories with the same reports have the same metrics

content_same : {A : Type 0} (fault_in : Memory → Option ReportFault) (content_in : Memory → List A) (a b : Memory) → IsSame fault_in content_in a b
    → unless (fault_in a) (content_in a) ≡ unless (fault_in b) (content_in b)
content_same fault_in content_in a b same = same_reported unless (λ f x y. refl) fault_in content_in a b same

abbrev report_metrics : Bool → Memory → List Metric
report_metrics all memory =
    module_metrics all (requested_flags all memory)
    (unless (inventory_fault memory) (inventory_entries memory))
    (unless (monitors_fault memory) (all_lanes_entries Monitors memory))
    (unless (flags_fault memory) (all_lanes_entries Flags memory))
    (option_map code_of (first_fault memory))

module _ (a b : Memory) (same : ReportsSame a b) where
  first_same : first_fault a ≡ first_fault b
  unfolding first_fault
  first_same i = option_or (option_or (same.inventory.fault i) (same.monitors.fault i)) (same.flags.fault i)

  flags_same : (all : Bool) → requested_flags all a ≡ requested_flags all b
  unfolding requested_flags
  flags_same true = content_same flags_fault all_lanes_flag_states a b same.each_flag
  flags_same false = refl

  reports_same : (all : Bool) → report_metrics all a ≡ report_metrics all b
  reports_same all =
      let identity = content_same inventory_fault inventory_entries a b same.inventory in
      let measured = content_same monitors_fault (all_lanes_entries Monitors) a b same.all_monitors in
      let warned = content_same flags_fault (all_lanes_entries Flags) a b same.all_flags in
      λ i. module_metrics all (flags_same all i) (identity i) (measured i) (warned i) (option_map code_of (first_same i))

-- ---- what a module lists itself

own_same : (memory all : Memory) → IsImage memory → IsObservedFrom memory (Ok all) → HasOwnStatistics memory → vdm_seen all ≡ vdm_seen memory
own_same memory all image (after, is) own =
    let lanes = observed_lanes (window_at_start memory) after memory all image refl is in
    listed_same all memory (whole_read (window_at_start memory) after memory all image own refl is) (detail_fault_same all memory lanes.all)

-- ---- the metrics of VDM follow

followed_in : (labels : List Label) (xs ys : List Metric) → exposition labels (xs ++ ys) ≡ exposition labels xs ++ exposition labels ys
followed_in labels xs ys =
    ap text_of (flat_map-append (metric_lines labels) xs ys)
    ∙ flat_map-append (λ (line : List ℕ). line ++ 10 ∷ []) (metrics_lines labels xs) (metrics_lines labels ys)

followed : (all : Bool) (labels : List Label) (memory : Memory) → exposition labels (metrics_of all memory) ≡ metrics_with labels (exposition labels (report_metrics all memory)) (vdm_seen memory)
unfolding metrics_of
followed all labels memory = followed_in labels (report_metrics all memory) (vdm_metrics (vdm_seen memory))

module _ (options : Options) where
  abbrev reported_of : Bool → Result Memory ReportFault → Reported
  reported_of over = metrics_reported (record options { bus = over })

  abbrev request : Bool → Request
  request = over_bus name.Metrics options

  whole : (input : List ℕ) (a : Answer) → IsAnswerOver IsObservedFrom reported_of false input a → a ≢ Err fault.Memory → a ≢ Err fault.Io → IsPlainAnswer request input a
  whole input a is memory read = record { plain = is; alone = λ other. alone IsObservedFrom reported_of input a other is memory read }

  copy_of : (text t : List ℕ) (f : Option ReportedFault) → IsReported IsObservedFrom true (reported_of true) text (Ok (t, f)) → ¬ (IsGivenUp (Ok (t, f))) → IsReportedOfCopy IsObservedFrom reported_of text (Ok (t, f))
  copy_of text t f (read, is, same) ended = reported_of_copy IsObservedFrom reported_of observing_fault text (Ok (t, f)) read is same refl ended

  reported_before : (input t : List ℕ) (f : Option ReportedFault) → IsAnswerOver IsObservedFrom reported_of true input (Ok (t, f)) → ¬ (IsGivenUp (Ok (t, f))) → IsFollowed vdm_seen (metrics_with options.labels) request input t f
  reported_before input t f is ended =
      let copy = copy_of (image_of input) t f is.2 ended in
      let image = copy.is_text.image in
      let memory = copy.memory in
      let reports = observed_reports (window_at_start memory) copy.is_read.0 memory copy.copy image refl copy.is_read.1 in
      let told = exposition options.labels (report_metrics options.all_flags copy.copy) in
      let text_is : t ≡ metrics_with options.labels told (vdm_seen copy.copy) = ap text_in copy.is_reported ∙ followed options.all_flags options.labels copy.copy in
      let fault_is : f ≡ option_map Metrics (first_fault memory) = ap fault_in copy.is_reported ∙ ap (option_map Metrics) (first_same copy.copy memory reports) in
      let text_too : metrics_with options.labels told (vdm_seen memory) ≡ exposition options.labels (metrics_of options.all_flags memory) =
      ap (λ (metrics : List Metric). metrics_with options.labels (exposition options.labels metrics) (vdm_seen memory)) (reports_same copy.copy memory reports options.all_flags)
      ∙ sym (followed options.all_flags options.labels memory) in
      let more : List ℕ × Option ReportedFault = (metrics_with options.labels told (vdm_seen memory), f) in
      record {
        memory = memory;
        read = copy.copy;
        beside = told;
        is_image = copy.is_text;
        is_text = text_is;
        whole = whole input (Ok more) (is.0, is.1, (Ok memory, copy.is_text, λ i. Ok (text_too i, fault_is i))) (λ clash. cc) (λ clash. cc);
        pages = statistics_same (window_at_start memory) copy.is_read.0 memory copy.copy image refl copy.is_read.1;
        advertised = advertised_read (window_at_start memory) copy.is_read.0 memory copy.copy image refl copy.is_read.1;
        own = own_same memory copy.copy image copy.is_read;
      }

  -- metrics are reported in place of any fault but that of an image that is none
  refused : (text : List ℕ) (f : Fault) → IsReported IsObservedFrom true (reported_of true) text (Err f) → IsReported IsObservedFrom false (reported_of false) text (Err f)
  refused text (fault.Image f) first = first
  refused text f (Ok memory, is, same) = absurd cc
  refused text f (Err g, is, same) = absurd cc

  pub metrics_reported_before : AreReportedBefore vdm_seen (metrics_with options.labels) (over_bus name.Metrics options)
  metrics_reported_before input (Ok (t, f)) is ended memory read = reported_before input t f is ended
  metrics_reported_before input (Err f) is ended memory read = whole input (Err f) (err_to IsObservedFrom reported_of input f (refused (image_of input) f) is) memory read

  pub metrics_reported_alike : AreReportedAlike (over_bus name.Metrics options)
  metrics_reported_alike = alike vdm_seen (metrics_with options.labels) request metrics_reported_before
