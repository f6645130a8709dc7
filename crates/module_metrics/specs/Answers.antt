-- What is answered to an image: its metrics, of the reports that have no fault and of VDM, and the first fault. (docs/formats.md, "Metrics";
-- this project's own)
use Rattle.std.specs.Prelude.{ℕ, ◌++◌, Bool, if◌then◌else◌, get_or, List, [], Option, Some, option_map}
use Rattle.std.specs.Option.{option_or}
use Rattle.paged_memory.specs.Images.{Memory}
use Rattle.module_decoding.specs.declared.report.Report.TheVariants.{Flags, Monitors}
use Rattle.report_entries.specs.declared.flag.Flag.{Flag}
use Rattle.report_entries.specs.Shown.{printable}
use Rattle.reports.specs.declared.fault.ReportFault.{ReportFault}
use Rattle.reports.specs.FaultWords.{report_fault_words}
use Rattle.reports.specs.Reports.{all_lanes_entries, all_lanes_flag_states, flags_fault, inventory_entries, inventory_fault, monitors_fault}
use Rattle.module_metrics.specs.Exposition.{Label, Metric, exposition}
use Rattle.module_metrics.specs.ModuleMetrics.{fault_metrics, module_metrics}
use Rattle.module_metrics.specs.Unless.{unless}
use Rattle.module_metrics.specs.VdmMetrics.{vdm_metrics, vdm_seen}

-- the first word of a fault's line
abbrev pub code_of : ReportFault → List ℕ
code_of fault = printable (get_or (report_fault_words fault) 0 [])

-- of the three reports in this order
unfoldable pub first_fault : Memory → Option ReportFault
first_fault memory = option_or (option_or (inventory_fault memory) (monitors_fault memory)) (flags_fault memory)

-- each flag with its state, only if that is requested
unfoldable pub requested_flags : Bool → Memory → List (Flag × Bool)
requested_flags all memory = if all then unless (flags_fault memory) (all_lanes_flag_states memory) else []

-- with the lanes of all banks, and then those of VDM
unfoldable pub metrics_of : Bool → Memory → List Metric
metrics_of all memory =
    module_metrics all (requested_flags all memory)
    (unless (inventory_fault memory) (inventory_entries memory))
    (unless (monitors_fault memory) (all_lanes_entries Monitors memory))
    (unless (flags_fault memory) (all_lanes_entries Flags memory))
    (option_map code_of (first_fault memory))
    ++ vdm_metrics (vdm_seen memory)

-- ---- without an image

unfoldable pub fault_text : List Label → ReportFault → List ℕ
fault_text labels fault = exposition labels (fault_metrics (Some (code_of fault)))
