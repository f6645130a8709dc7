-- Why the memory of a module is not read. (docs/fields.md, "What is read of SFF modules"; SFF-8636, "Status Indicators")
use Rattle.std.specs.Prelude.{if◌then◌else◌, List, [], ◌∷◌, ◌++◌, Option, None}
use Rattle.std.specs.Option.{option_or}
use Rattle.bus_model.specs.declared.device.Dev.TheVariants.{A0}
use Rattle.paged_memory.specs.declared.family.Family.TheVariants.{Sff8636}
use Rattle.paged_memory.specs.Keys.{lower_key, upper_key}
use Rattle.paged_memory.specs.Images.{Memory}
use Rattle.field_tables.specs.declared.field.Field.TheVariants as fields
use Rattle.field_tables.specs.declared.table.sff8636.Sff8636Field.TheVariants as sff8636
use Rattle.field_tables.specs.declared.sff_fault.SffFault.{SffFault}
use Rattle.field_tables.specs.declared.sff_fault.SffFault.TheVariants.{Absent, FlatMemory, WrongIdentifier}
use Rattle.field_tables.specs.Readings.{bit}
use Rattle.field_tables.specs.Reasons.{Reason, lacks, if_set, of_another, refused_by}

abbrev pub module_reasons : List (Reason SffFault)
module_reasons =
    lacks (lower_key A0) (Absent (lower_key A0))
    ∷ of_another Sff8636 (fields.Sff8636 sff8636.Identifier) (λ identifier. WrongIdentifier identifier)
    ∷ []

abbrev pub identity_reasons : List (Reason SffFault)
identity_reasons = module_reasons ++ lacks (upper_key A0 0 0x00) (Absent (upper_key A0 0 0x00)) ∷ []

abbrev pub threshold_reasons : List (Reason SffFault)
threshold_reasons =
    module_reasons
    ++ if_set (fields.Sff8636 sff8636.FlatMemory) FlatMemory
    ∷ lacks (upper_key A0 0 0x03) (Absent (upper_key A0 0 0x03))
    ∷ []

-- of monitors and flags, which are in lower memory
unfoldable pub module_fault : Memory → Option SffFault
module_fault memory = refused_by memory module_reasons

unfoldable pub identity_fault : Memory → Option SffFault
identity_fault memory = refused_by memory identity_reasons

unfoldable pub threshold_fault : Memory → Option SffFault
threshold_fault memory = refused_by memory threshold_reasons

-- of measured values and their limits, which a module with flat memory doesn't have
unfoldable pub measured_fault : Memory → Option SffFault
measured_fault memory = option_or (module_fault memory) (if bit memory (fields.Sff8636 sff8636.FlatMemory) then None else threshold_fault memory)
