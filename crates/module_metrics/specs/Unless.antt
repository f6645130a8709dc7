-- What a report has if it has no fault. (docs/formats.md, "Metrics"; this project's own)
use Rattle.std.specs.Prelude.{List, [], Option, Some, None}
use Rattle.reports.specs.declared.fault.ReportFault.{ReportFault}

abbrev pub unless : {A : Type 0} → Option ReportFault → List A → List A
unless None entries = entries
unless (Some fault) entries = []
