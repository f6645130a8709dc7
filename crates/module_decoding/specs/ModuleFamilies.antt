-- Which family the module of an image is of, and why it is not read. (docs/formats.md, "Modules that are read"; SFF-8024,
-- "Identifier Values"; OIF-CMIS-05.0, "Management Characteristics")
use Rattle.std.specs.Prelude.{ℕ, ◌/◌, ◌==◌, Bool, not, ◌&&◌, ◌||◌, List, [], ◌∷◌, Option, is_some, unwrap_or}
use Rattle.bus_model.specs.declared.device.Dev.TheVariants.{A0}
use Rattle.paged_memory.specs.declared.family.Family.{Family}
use Rattle.paged_memory.specs.declared.family.Family.TheVariants.{Cmis}
use Rattle.paged_memory.specs.Families.{family_by, is_family, managed_by}
use Rattle.paged_memory.specs.Images.{Memory}
use Rattle.paged_memory.specs.Keys.{lower_key}
use Rattle.field_tables.specs.declared.field.Field.TheVariants as fields
use Rattle.field_tables.specs.declared.table.cmis.CmisField.TheVariants as cmis
use Rattle.module_decoding.specs.declared.module_family.ModuleFault.{ModuleFault}
use Rattle.module_decoding.specs.declared.module_family.ModuleFault.TheVariants.{Absent, Unknown, Revision}
use Rattle.field_tables.specs.FirstFault.{first_fault}
use Rattle.field_tables.specs.Halves.{is_absent}
use Rattle.field_tables.specs.Readings.{number}
use Rattle.applications.specs.Refusals.{is_read_revision}

-- all families have the identifier in the same byte
abbrev pub identifier : Memory → ℕ
identifier memory = number memory (fields.Cmis cmis.Identifier)

-- if one was found
abbrev pub known : Option Family → Family
known family = unwrap_or family Cmis

-- why a module is not read for which this family was found: by its lower memory; that its revision is read is asked of CMIS alone
abbrev pub faults_in : Option Family → Bool → Memory → List (Bool × ModuleFault)
faults_in family is_read memory =
    (is_absent memory (lower_key A0), Absent (lower_key A0))
    ∷ (not (is_some family), Unknown (identifier memory))
    ∷ (is_family Cmis family && not is_read, Revision (number memory (fields.Cmis cmis.Revision)))
    ∷ []

unfoldable pub fault_in : Option Family → Bool → Memory → Option ModuleFault
fault_in family is_read memory = first_fault (faults_in family is_read memory)

-- ---- of any report

unfoldable pub family_of : Memory → Family
family_of memory = known (family_by (identifier memory))

unfoldable pub module_fault : Memory → Option ModuleFault
module_fault memory = fault_in (family_by (identifier memory)) (is_read_revision (number memory (fields.Cmis cmis.Revision))) memory

-- ---- of details

-- of CMIS 3 too
abbrev pub is_detail_revision : ℕ → Bool
is_detail_revision revision = revision / 16 == 3 || is_read_revision revision

unfoldable pub detail_family_of : Memory → Family
detail_family_of memory = known (managed_by (identifier memory))

unfoldable pub detail_fault : Memory → Option ModuleFault
detail_fault memory = fault_in (managed_by (identifier memory)) (is_detail_revision (number memory (fields.Cmis cmis.Revision))) memory
