-- How a line names what keeps a report from being made: a code, and then its values. (docs/formats.md, "Faults"; this
-- project's own)
use Rattle.std.specs.Prelude.{ℕ, List, [], ◌∷◌, codes}
use Rattle.std.specs.Fmt.{decimal}
use Rattle.bus_model.specs.FaultWords.{bus_fault_words}
use Rattle.paged_memory.specs.ImageText.{key_words}
use Rattle.field_tables.specs.SffFaultWords.{sff_fault_words}
use Rattle.applications.specs.FaultWords.{advert_fault_words}
use Rattle.reports.specs.declared.fault.ReportFault.{ReportFault}
use Rattle.reports.specs.declared.fault.ReportFault.TheVariants.{Memory, Absent, Unknown, Revision, Sff, Advert, Bus, GaveUp}

abbrev pub report_fault_words : ReportFault → List (List ℕ)
report_fault_words Memory = codes "memory" ∷ []
report_fault_words (Unknown identifier) = codes "RP1" ∷ decimal identifier ∷ []
report_fault_words (Bus fault) = codes "RP2" ∷ bus_fault_words fault
report_fault_words GaveUp = codes "RP3" ∷ []
report_fault_words (Revision revision) = codes "RP4" ∷ decimal revision ∷ []
report_fault_words (Absent key) = codes "RP6" ∷ key_words key
-- those of other crates under their own codes
report_fault_words (Sff fault) = sff_fault_words fault
report_fault_words (Advert fault) = advert_fault_words fault
