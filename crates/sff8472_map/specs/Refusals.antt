-- Why the memory of a module is not read. (docs/fields.md, "What is read of SFF modules"; SFF-8472, "Identifier" and
-- "Diagnostic Monitoring Type")
use Rattle.std.specs.Prelude.{List, [], ◌∷◌, ◌++◌, Option}
use Rattle.bus_model.specs.declared.device.Dev.TheVariants.{A0, A2}
use Rattle.paged_memory.specs.declared.family.Family.TheVariants.{Sff8472}
use Rattle.paged_memory.specs.Keys.{lower_key}
use Rattle.paged_memory.specs.Images.{Memory}
use Rattle.field_tables.specs.declared.field.Field.TheVariants as fields
use Rattle.field_tables.specs.declared.table.sff8472.Sff8472Field.TheVariants as sff8472
use Rattle.field_tables.specs.declared.sff_fault.SffFault.{SffFault}
use Rattle.field_tables.specs.declared.sff_fault.SffFault.TheVariants.{Absent, WrongIdentifier, NoDiagnostics, AddressChange, ExternalCalibration}
use Rattle.field_tables.specs.Reasons.{Reason, lacks, if_clear, if_set, of_another, refused_by}

abbrev pub module_reasons : List (Reason SffFault)
module_reasons =
    lacks (lower_key A0) (Absent (lower_key A0))
    ∷ of_another Sff8472 (fields.Sff8472 sff8472.Identifier) (λ identifier. WrongIdentifier identifier)
    ∷ []

-- of what device A2 has
abbrev pub diagnostics_reasons : List (Reason SffFault)
diagnostics_reasons = module_reasons ++ if_clear (fields.Sff8472 sff8472.DiagPresent) NoDiagnostics ∷ if_set (fields.Sff8472 sff8472.AddressChange) AddressChange ∷ []

abbrev pub lacks_diagnostics : Reason SffFault
lacks_diagnostics = lacks (lower_key A2) (Absent (lower_key A2))

abbrev pub flags_reasons : List (Reason SffFault)
flags_reasons = diagnostics_reasons ++ lacks_diagnostics ∷ []

-- of measured values and their limits
abbrev pub measured_reasons : List (Reason SffFault)
measured_reasons = diagnostics_reasons ++ if_set (fields.Sff8472 sff8472.External) ExternalCalibration ∷ lacks_diagnostics ∷ []

-- of the identity; the other records' faults begin with these
unfoldable pub module_fault : Memory → Option SffFault
module_fault memory = refused_by memory module_reasons

unfoldable pub diagnostics_fault : Memory → Option SffFault
diagnostics_fault memory = refused_by memory diagnostics_reasons

unfoldable pub flags_fault : Memory → Option SffFault
flags_fault memory = refused_by memory flags_reasons

unfoldable pub measured_fault : Memory → Option SffFault
measured_fault memory = refused_by memory measured_reasons
