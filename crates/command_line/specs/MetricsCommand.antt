-- What the command `metrics` answers to the text of an image, with its labels, and with `--bus` and `--flags` or without them.
-- (docs/formats.md, "Input", "Metrics" and "Reports over a bus"; this project's own)
use Rattle.std.specs.Prelude.{ℕ, List, Some, option_map, Result, Ok, Err}
use Rattle.paged_memory.specs.Images.{Memory}
use Rattle.module_metrics.specs.Answers.{fault_text, first_fault, metrics_of}
use Rattle.module_metrics.specs.Exposition.{exposition}
use Rattle.reports.specs.declared.fault.ReportFault.{ReportFault}
use Rattle.command_line.specs.declared.choice.options.Options.{Options}
use Rattle.command_line.specs.declared.reported_fault.ReportedFault.TheVariants.{Metrics}
use Rattle.command_line.specs.OverBus.{IsObservedFrom}
use Rattle.command_line.specs.ReportCommands.{IsReported, Reported}
use Rattle.command_line.specs.Runs.{Answer}

-- what is reported of a memory: its metrics and the first fault of its reports. If there is no memory, why there is none is all that is reported
abbrev pub metrics_reported : Options → Result Memory ReportFault → Reported
metrics_reported options (Ok memory) =
    Ok (exposition options.labels (metrics_of options.all_flags memory), option_map Metrics (first_fault memory))
metrics_reported options (Err f) = Ok (fault_text options.labels f, Some (Metrics f))

-- the answer; an image that is none has a line, as for other commands
abbrev pub IsMetricsAnswer : Options → List ℕ → Answer → Type 0
IsMetricsAnswer options = IsReported IsObservedFrom options.bus (metrics_reported options)
