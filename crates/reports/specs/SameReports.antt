-- When two memories have the same reports, and that what is read of an image over a scripted bus has the image's.
-- (docs/bus.md, "Reading an image"; docs/formats.md, "inventory", "apps", "monitors", "flags" and "details"; this project's own)
use Rattle.std.specs.Prelude.{◌≡◌, List, Option, None, Ok}
use Rattle.bus_model.specs.declared.script.Directive.{Directive}
use Rattle.bus_model.specs.Runs.{Seen}
use Rattle.bus_model.specs.ScriptedBus.{script_rules}
use Rattle.paged_memory.specs.Images.{Memory}
use Rattle.paged_memory.specs.ImageText.{IsImage}
use Rattle.paged_memory.specs.Windows.{Windowed, started, window_conduct}
use Rattle.applications.specs.Advertised.{advertised_by}
use Rattle.module_decoding.specs.declared.report.Report.TheVariants.{Flags, Monitors}
use Rattle.reports.specs.Apps.{apps_entries, apps_fault}
use Rattle.reports.specs.Details.{details_entries, details_fault}
use Rattle.reports.specs.FetchedImages.{IsFetching}
use Rattle.reports.specs.Reports.{all_lanes_entries, all_lanes_flag_states, flags_entries, flags_fault, inventory_entries, inventory_fault, monitors_entries, monitors_fault}

-- the report has the same fault for both memories, and if it has none, the same content
pub record IsSame {F A : Type 0} (fault_of : Memory → Option F) (content_of : Memory → A) (memory other : Memory) : Type 0 where
  pub fault : fault_of memory ≡ fault_of other
  pub content : fault_of memory ≡ None → content_of memory ≡ content_of other

-- so have the five reports of modules (of details what stands at fixed places), in whatever form their entries are printed, and what is said of the
-- lanes of all banks
pub record ReportsSame (memory other : Memory) : Type 0 where
  pub inventory : IsSame inventory_fault inventory_entries memory other
  pub apps : IsSame apps_fault (λ (m : Memory). apps_entries (advertised_by m)) memory other
  pub monitors : IsSame monitors_fault monitors_entries memory other
  pub flags : IsSame flags_fault flags_entries memory other
  pub details : IsSame details_fault details_entries memory other
  pub all_monitors : IsSame monitors_fault (all_lanes_entries Monitors) memory other
  pub all_flags : IsSame flags_fault (all_lanes_entries Flags) memory other
  pub each_flag : IsSame flags_fault all_lanes_flag_states memory other

-- whatever a script refuses: the reports of what is read over its bus, with a new window of an image, are those of the window's image
abbrev pub FetchedReportsSame : Type 0
FetchedReportsSame =
    (old new : Seen (List Directive × Windowed)) (memory fetched : Memory) → IsImage memory → old.state.1 ≡ started memory
    → IsFetching (script_rules window_conduct) old new (Ok fetched)
    → ReportsSame fetched memory
