-- Why the Applications of a module are not read. (docs/formats.md, "apps"; OIF-CMIS-05.0, chapter 8 "Module
-- Management Memory Map", "Management Characteristics" and the page checksums)
use Rattle.std.specs.Prelude.{ℕ, ◌/◌, ◌==◌, ◌||◌, Bool, not, if◌then◌else◌, List, [], ◌∷◌, ◌++◌, Option}
use Rattle.std.specs.Option.{option_or}
use Rattle.bus_model.specs.declared.device.Dev.TheVariants.{A0}
use Rattle.paged_memory.specs.declared.family.Family.TheVariants.{Cmis}
use Rattle.paged_memory.specs.Keys.{lower_key, upper_key}
use Rattle.paged_memory.specs.Images.{Memory}
use Rattle.field_tables.specs.declared.field.Field.TheVariants as fields
use Rattle.field_tables.specs.declared.table.cmis.CmisField.TheVariants as cmis
use Rattle.field_tables.specs.declared.field.Sum.TheVariants as sums
use Rattle.field_tables.specs.declared.field.CmisSum.TheVariants as cmis_sums
use Rattle.field_tables.specs.Reasons.{Reason, lacks, tells, wrong, if_set, of_another, refused_by}
use Rattle.applications.specs.declared.conventions.Conventions.{Conventions}
use Rattle.applications.specs.declared.fault.AdvertFault.{AdvertFault}
use Rattle.applications.specs.declared.fault.AdvertFault.TheVariants.{Absent, NotCmis, Revision, NotEightLanes, FlatMemory, BadSum}

-- major 4 or 5
abbrev pub is_read_revision : ℕ → Bool
is_read_revision revision = revision / 16 == 4 || revision / 16 == 5

-- of the module, by its lower memory
abbrev pub module_reasons : List (Reason AdvertFault)
module_reasons =
    lacks (lower_key A0) (Absent (lower_key A0))
    ∷ of_another Cmis (fields.Cmis cmis.Identifier) (λ identifier. NotCmis identifier)
    ∷ tells (fields.Cmis cmis.Revision) (λ (revision : ℕ). not (is_read_revision revision)) (λ revision. Revision revision)
    ∷ tells (fields.Cmis cmis.Identifier) (λ (identifier : ℕ). identifier == 0x1E) (λ identifier. NotEightLanes identifier)
    ∷ if_set (fields.Cmis cmis.FlatMemory) FlatMemory
    ∷ []

-- of its pages
abbrev pub page_reasons : List (Reason AdvertFault)
page_reasons =
    lacks (upper_key A0 0 0x00) (Absent (upper_key A0 0 0x00))
    ∷ lacks (upper_key A0 0 0x01) (Absent (upper_key A0 0 0x01))
    ∷ wrong (sums.Cmis cmis_sums.Sum00) (BadSum 0x00)
    ∷ wrong (sums.Cmis cmis_sums.Sum01) (BadSum 0x01)
    ∷ []

abbrev pub page_fault : Memory → Option AdvertFault
page_fault memory = refused_by memory page_reasons

unfoldable pub advert_fault : Memory → Option AdvertFault
advert_fault memory = refused_by memory (module_reasons ++ page_reasons)

-- of the page of its Active Control Set, which is looked at if that is asked for
abbrev pub active_reasons : List (Reason AdvertFault)
active_reasons = lacks (upper_key A0 0 0x11) (Absent (upper_key A0 0 0x11)) ∷ []

-- why a host that reads by these conventions does not read them
abbrev pub advert_fault_under : Conventions → Memory → Option AdvertFault
advert_fault_under conventions memory =
    if conventions.now then option_or (advert_fault memory) (refused_by memory active_reasons) else advert_fault memory
