-- What a report's answer tells of its fault.
use Rattle.std.proofs.Common.{◌≡◌, ◌≢◌, List, [], Option, None, Some, Result, Ok, Err, sym, ap}
use Rattle.report_entries.specs.declared.entry.Entry as rust
use Rattle.report_entries.specs.Entries.{Entry}
use Rattle.reports.specs.Answered.{AreEntries}
use Rattle.reports.specs.declared.fault.ReportFault.{ReportFault}
use Rattle.reports.specs.declared.fault.ReportFault.TheVariants.{Memory}
use Rattle.module_metrics.specs.Unless.{unless}

abbrev fault_of : {T : Type 0} → Result T ReportFault → Option ReportFault
fault_of (Ok x) = None
fault_of (Err fault) = Some fault

-- another fault than out of memory is the report's own
pub refused_is : (refused : Option ReportFault) (entries : List Entry) (fault : ReportFault) → fault ≢ Memory → AreEntries refused entries (Err fault) → refused ≡ Some fault
refused_is None entries fault other says = absurd (other says)
refused_is (Some own) entries fault other says = sym (ap fault_of says)

pub no_entries : (refused : Option ReportFault) (entries : List Entry) (fault : ReportFault) → fault ≢ Memory → AreEntries refused entries (Err fault) → unless refused entries ≡ []
no_entries refused entries fault other says = ap (λ (r : Option ReportFault). unless r entries) (refused_is refused entries fault other says)
