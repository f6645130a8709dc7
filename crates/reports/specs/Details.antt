-- All that a module says of itself at fixed places, by its family. (docs/formats.md, "details"; this project's own)
use Rattle.std.specs.Prelude.{◌&&◌, not, if◌then◌else◌, List, Option, Some, None}
use Rattle.std.specs.Option.{option_or}
use Rattle.bus_model.specs.declared.device.Dev.TheVariants.{A2}
use Rattle.paged_memory.specs.declared.family.Family.{Family}
use Rattle.paged_memory.specs.declared.family.Family.TheVariants as families
use Rattle.paged_memory.specs.Images.{Memory}
use Rattle.paged_memory.specs.Keys.{lower_key}
use Rattle.field_tables.specs.Halves.{is_absent}
use Rattle.module_decoding.specs.CmisPages.{absent_page, detail_pages}
use Rattle.module_decoding.specs.ModuleFamilies.{detail_family_of}
use Rattle.module_details.specs.Families.{cmis_entries, lacks_diagnostics, qsfp_entries, sfp_entries}
use Rattle.sff8636_map.specs.Refusals as sff8636_refusals
use Rattle.sff8472_map.specs.Refusals as sff8472_refusals
use Rattle.report_entries.specs.Entries.{Entry}
use Rattle.reports.specs.declared.fault.ReportFault.{ReportFault}
use Rattle.reports.specs.declared.fault.ReportFault.TheVariants.{Absent}
use Rattle.reports.specs.Families.{detail_fault, lacks, of_sff}

-- device A2 has diagnostics that are not there
abbrev pub absent_diagnostics : Memory → Option ReportFault
absent_diagnostics memory =
    if not (lacks_diagnostics memory) && is_absent memory (lower_key A2) then Some (Absent (lower_key A2)) else None

-- why there is none of a module of this family
abbrev pub fault_in : Family → Memory → Option ReportFault
fault_in families.Cmis memory = lacks (absent_page (detail_pages memory) memory)
fault_in families.Sff8636 memory = of_sff (sff8636_refusals.identity_fault memory)
fault_in families.Sff8472 memory = option_or (of_sff (sff8472_refusals.module_fault memory)) (absent_diagnostics memory)

abbrev pub entries_in : Family → Memory → List Entry
entries_in families.Cmis memory = cmis_entries memory
entries_in families.Sff8636 memory = qsfp_entries memory
entries_in families.Sff8472 memory = sfp_entries memory

unfoldable pub details_fault : Memory → Option ReportFault
details_fault memory = option_or (detail_fault memory) (fault_in (detail_family_of memory) memory)

unfoldable pub details_entries : Memory → List Entry
details_entries memory = entries_in (detail_family_of memory) memory
