-- What a command that reports of an image answers to its text, with the flags `--bus` and `--json` or without them.
-- (docs/formats.md, "Input", "Reports", "JSON", "details", "observables" and "Reports over a bus"; this project's own)
use Rattle.std.specs.Prelude.{◌≡◌, ◌⊎◌, ℕ, Bool, true, false, List, Option, Some, None, MatchOption, Result, Ok, Err, Vec}
use Rattle.std.specs.Result.{result_map_both}
use Rattle.std.specs.declared.alloc.Global.{Global}
use Rattle.text_lines.specs.Lines.{lines_of, text_of}
use Rattle.paged_memory.specs.Images.{Memory}
use Rattle.paged_memory.specs.ImageFaults.{IsFirstFault}
use Rattle.applications.specs.Advertised.{advertised_by}
use Rattle.reports.specs.Answered.{IfMemory}
use Rattle.reports.specs.Apps.{apps_entries, apps_fault}
use Rattle.report_entries.specs.Entries.{Entry}
use Rattle.report_entries.specs.EntryJson.{json_text, report_json}
use Rattle.report_entries.specs.EntryText.{report_text}
use Rattle.reports.specs.Details.{details_fault}
use Rattle.reports.specs.Families.{detail_fault}
use Rattle.observable_reports.specs.Answered.{json_of}
use Rattle.observable_reports.specs.Details.{details_text}
use Rattle.observable_reports.specs.ObservationText.{observables_lines}
use Rattle.reports.specs.Reports.{flags_entries, flags_fault, inventory_entries, inventory_fault, monitors_entries, monitors_fault}
use Rattle.reports.specs.declared.fault.ReportFault.{ReportFault}
use Rattle.command_line.specs.declared.choice.commands.ReportName.{ReportName}
use Rattle.command_line.specs.declared.choice.commands.ReportName.TheVariants.{Inventory, Apps, Monitors, Flags}
use Rattle.command_line.specs.declared.fault.Fault.TheVariants as fault
use Rattle.command_line.specs.Coloring.{shown_as}
use Rattle.command_line.specs.declared.choice.options.Options.{Options}
use Rattle.command_line.specs.declared.reported_fault.ReportedFault.{ReportedFault}
use Rattle.command_line.specs.OverBus.{IsFetchedFrom, IsObservedFrom, IsReading}
use Rattle.command_line.specs.Runs.{Answer}

-- this fault if there is one, and else this text, if there is memory for it
abbrev pub Prints : Option ReportFault → List ℕ → Result (Vec ℕ Global) ReportFault → Type 0
Prints refused text result =
    MatchOption refused (IfMemory (λ (written : List ℕ). written ≡ text) (result_map_both (λ written. written.items) (λ f. f) result)) (λ f. result ≡ Err f)

-- ---- what is reported of an image

-- a text and the fault that it reports, if there is one, or a fault alone
abbrev pub Reported : Type 0
Reported = Result (List ℕ × Option ReportedFault) ReportFault

abbrev pub answer_of_reported : Reported → Answer
answer_of_reported reported = result_map_both (λ text. text) fault.Report reported

-- that is answered, if there is memory for it
abbrev pub IsReportedAs : Reported → Answer → Type 0
IsReportedAs reported answer = (answer ≡ Err fault.Memory) ⊎ (answer ≡ answer_of_reported reported)

-- the answer to the text of an image: a report on its memory, or over a bus on what is read of it so
abbrev pub IsReported : (Memory → Result Memory ReportFault → Type 0) → Bool → (Result Memory ReportFault → Reported) → List ℕ → Answer → Type 0
IsReported IsRead bus reported image (Err (fault.Image f)) = IsFirstFault (lines_of image) f
IsReported IsRead bus reported image answer =
    (read : Result Memory ReportFault) × IsReading IsRead bus image read × (answer ≡ answer_of_reported (reported read))

-- ---- reports

-- the fault, or else the text
abbrev pub text_unless : Option ReportFault → List ℕ → Reported
text_unless None text = Ok (text, None)
text_unless (Some f) text = Err f

-- of what there is to report of, by why there is no report of a memory and what is printed of one, as JSON or as text, in colors or not
abbrev pub report_of : Options → (Memory → Option ReportFault) → (Bool → Memory → List ℕ) → Result Memory ReportFault → Reported
report_of options refusal printed_of (Ok memory) =
    text_unless (refusal memory) (shown_as options.coloring options.json (printed_of options.json memory))
report_of options refusal printed_of (Err f) = Err f

-- why there is no such report of a memory
abbrev pub refusal_of : ReportName → Memory → Option ReportFault
refusal_of Inventory = inventory_fault
refusal_of Apps = apps_fault
refusal_of Monitors = monitors_fault
refusal_of Flags = flags_fault

-- what it says of one
abbrev pub entries_of : ReportName → Memory → List Entry
entries_of Inventory memory = inventory_entries memory
entries_of Apps memory = apps_entries (advertised_by memory)
entries_of Monitors memory = monitors_entries memory
entries_of Flags memory = flags_entries memory

-- what is printed of that, as JSON or as text
abbrev pub printed : Bool → List Entry → List ℕ
printed true entries = json_text (report_json entries)
printed false entries = report_text entries

abbrev pub printed_of : ReportName → Bool → Memory → List ℕ
printed_of report json memory = printed json (entries_of report memory)

-- the answer of a report to the text of an image
abbrev pub IsReportAnswer : ReportName → Options → List ℕ → Answer → Type 0
IsReportAnswer report options = IsReported IsFetchedFrom options.bus (report_of options (refusal_of report) (printed_of report))

-- ---- details

abbrev pub IsDetailsAnswer : Options → List ℕ → Answer → Type 0
IsDetailsAnswer options = IsReported IsObservedFrom options.bus (report_of options details_fault details_text)

-- ---- observables, of the modules of which details are reported

abbrev pub observed_text : Bool → Memory → List ℕ
observed_text true memory = json_text (json_of memory)
observed_text false memory = text_of (observables_lines memory)

abbrev pub IsObservablesAnswer : Options → List ℕ → Answer → Type 0
IsObservablesAnswer options = IsReported IsObservedFrom options.bus (report_of options detail_fault observed_text)
