-- What is answered as JSON of what a module measures: a fault if there is one, and else a value, if there is memory for its text.
-- (docs/formats.md, "Modules that are read" and "observables"; this project's own)
use Rattle.std.specs.Prelude.{◌≡◌, ℕ, MatchOption, Option, Result, Err, Vec}
use Rattle.std.specs.Result.{result_map_both}
use Rattle.std.specs.declared.alloc.Global.{Global}
use Rattle.json.specs.Json.{Json}
use Rattle.paged_memory.specs.Images.{Memory}
use Rattle.observables.specs.Pages.{absent_page}
use Rattle.report_entries.specs.EntryJson.{IsJsonText}
use Rattle.reports.specs.Answered.{IfMemory}
use Rattle.reports.specs.declared.fault.ReportFault.{ReportFault}
use Rattle.observable_reports.specs.ObservationJson.{observables_json}
use Rattle.observable_reports.specs.ObservationText.{observed}
use Rattle.observable_reports.specs.OwnHalves.{own_halves}

-- this fault if there is one, else this value
abbrev pub AnswersJson : Option ReportFault → Json → Result (Vec ℕ Global) ReportFault → Type 0
AnswersJson refused value result =
    MatchOption refused (IfMemory (IsJsonText value) (result_map_both (λ written. written.items) (λ fault. fault) result)) (λ fault. result ≡ Err fault)

-- all that a module measures, of the halves that it has
abbrev pub json_of : Memory → Json
json_of memory = observables_json (observed (own_halves memory)) (absent_page (own_halves memory) 0)
