-- What a module advertises, as a report. (docs/formats.md, "apps"; OIF-CMIS-05.0, chapter 8 "Module Management Memory
-- Map", "Applications Advertising")
use Rattle.std.specs.Prelude.{ℕ, List, [], ◌∷◌, length, codes, Option, option_map}
use Rattle.applications.specs.Advertised.{Advertised}
use Rattle.applications.specs.Refusals.{advert_fault}
use Rattle.paged_memory.specs.Images.{Memory}
use Rattle.reports.specs.declared.fault.ReportFault.{ReportFault}
use Rattle.reports.specs.declared.fault.ReportFault.TheVariants.{Advert}
use Rattle.report_entries.specs.Entries.{Entry, entry, number, apps, lane_set}
use Rattle.report_entries.specs.EntryText.{entries_lines}

unfoldable pub apps_entries : Advertised → List Entry
apps_entries advertised =
    entry (codes "apps") (number (length advertised.apps))
    ∷ entry (codes "app") (apps advertised.apps)
    ∷ entry (codes "unsupported-media") (lane_set advertised.unsupported)
    ∷ []

abbrev pub apps_lines : Advertised → List (List ℕ)
apps_lines advertised = entries_lines (apps_entries advertised)

-- why there is no such report
abbrev pub apps_fault : Memory → Option ReportFault
apps_fault memory = option_map (λ fault. Advert fault) (advert_fault memory)
