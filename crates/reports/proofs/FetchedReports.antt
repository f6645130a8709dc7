-- What is read of an image over a scripted bus has the image's reports.
use Rattle.paged_memory.specs.Images.{Memory}
use Rattle.module_decoding.specs.declared.report.Report.TheVariants.{Flags, Inventory, Monitors}
use Rattle.reports.specs.SameReports.{FetchedReportsSame, ReportsSame}
use Rattle.reports.proofs.FetchedLanes.{fetched_lanes}
use Rattle.reports.proofs.SameContents.{same_all_lanes, same_apps, same_details, same_flag_states, same_report}
use Rattle.reports.proofs.SameFamilies.{LanesAgree}

-- memories that agree in the halves that are read for reports have the same
pub lanes_reports : (fetched memory : Memory) → LanesAgree fetched memory → ReportsSame fetched memory
lanes_reports fetched memory agree = record {
  inventory = same_report Inventory fetched memory agree;
  apps = same_apps fetched memory agree.all;
  monitors = same_report Monitors fetched memory agree;
  flags = same_report Flags fetched memory agree;
  details = same_details fetched memory agree;
  all_monitors = same_all_lanes Monitors fetched memory agree;
  all_flags = same_all_lanes Flags fetched memory agree;
  each_flag = same_flag_states fetched memory agree;
}

pub fetched_reports : FetchedReportsSame
fetched_reports old new memory fetched image start fetching = lanes_reports fetched memory (fetched_lanes old new memory fetched image start fetching)
