-- Why no report speaks of a module. (docs/formats.md, "Modules that are read"; this project's own)
use Rattle.std.specs.Prelude.{Option, option_map}
use Rattle.paged_memory.specs.declared.key.Key.{Key}
use Rattle.paged_memory.specs.Images.{Memory}
use Rattle.field_tables.specs.declared.sff_fault.SffFault.{SffFault}
use Rattle.module_decoding.specs.declared.module_family.ModuleFault.{ModuleFault}
use Rattle.module_decoding.specs.declared.module_family.ModuleFault.TheVariants as unread_module
use Rattle.module_decoding.specs.declared.report.DecodeFault.{DecodeFault}
use Rattle.module_decoding.specs.declared.report.DecodeFault.TheVariants.{Module}
use Rattle.module_decoding.specs.declared.report.DecodeFault.TheVariants as not_read
use Rattle.module_decoding.specs.ModuleFamilies as families
use Rattle.reports.specs.declared.fault.ReportFault.{ReportFault}
use Rattle.reports.specs.declared.fault.ReportFault.TheVariants.{Absent, Unknown, Revision, Sff}

-- for what any report refuses
abbrev pub unread : ModuleFault → ReportFault
unread (unread_module.Absent key) = Absent key
unread (unread_module.Unknown identifier) = Unknown identifier
unread (unread_module.Revision revision) = Revision revision

abbrev pub reported : DecodeFault → ReportFault
reported (Module fault) = unread fault
reported (not_read.Sff fault) = Sff fault

-- not even details
unfoldable pub detail_fault : Memory → Option ReportFault
detail_fault memory = option_map (λ fault. unread fault) (families.detail_fault memory)

-- a page of a CMIS module is needed that is not there
abbrev pub lacks : Option Key → Option ReportFault
lacks page = option_map (λ key. Absent key) page

-- a reader's own refusal
abbrev pub of_sff : Option SffFault → Option ReportFault
of_sff fault = option_map (λ f. Sff f) fault
