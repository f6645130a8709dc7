-- Why a module has no report of what it is, measures or warns of. (docs/formats.md, "Modules that are read", "inventory", "monitors" and
-- "flags"; OIF-CMIS-05.0, "Management Memory Map")
use Rattle.std.specs.Prelude.{ℕ, Bool, List, [], ◌∷◌, Option, option_map}
use Rattle.std.specs.Option.{option_or}
use Rattle.paged_memory.specs.declared.family.Family.{Family}
use Rattle.paged_memory.specs.declared.family.Family.TheVariants as families
use Rattle.paged_memory.specs.declared.key.Key.{Key}
use Rattle.paged_memory.specs.Images.{Memory}
use Rattle.field_tables.specs.declared.sff_fault.SffFault.{SffFault}
use Rattle.sff8636_map.specs.Refusals as sff8636
use Rattle.sff8472_map.specs.Refusals as sff8472
use Rattle.module_decoding.specs.declared.module_family.ModuleFault.{ModuleFault}
use Rattle.module_decoding.specs.declared.module_family.ModuleFault.TheVariants.{Absent}
use Rattle.module_decoding.specs.declared.report.DecodeFault.{DecodeFault}
use Rattle.module_decoding.specs.declared.report.DecodeFault.TheVariants.{Module, Sff}
use Rattle.module_decoding.specs.declared.report.Report.{Report}
use Rattle.module_decoding.specs.declared.report.Report.TheVariants.{Inventory, Monitors, Flags}
use Rattle.module_decoding.specs.CmisPages.{absent_page, is_flat, unless_flat}
use Rattle.module_decoding.specs.ModuleFamilies.{family_of, module_fault}

-- the pages of bank 0 that a CMIS module, whose memory is flat or not, has it on, by rising number
abbrev pub pages_of : Report → Bool → List ℕ
pages_of Inventory flat = 0x00 ∷ []
pages_of Monitors flat = unless_flat flat (0x01 ∷ 0x02 ∷ 0x11 ∷ [])
pages_of Flags flat = unless_flat flat (0x11 ∷ [])

-- such a page is not there
abbrev pub lacked : Option Key → Option DecodeFault
lacked page = option_map (λ key. Module (Absent key)) page

-- a reader's own refusal
abbrev pub of_sff : Option SffFault → Option DecodeFault
of_sff fault = option_map (λ f. Sff f) fault

abbrev pub sff8636_fault : Report → Memory → Option SffFault
sff8636_fault Inventory memory = sff8636.identity_fault memory
sff8636_fault Monitors memory = sff8636.measured_fault memory
sff8636_fault Flags memory = sff8636.module_fault memory

abbrev pub sff8472_fault : Report → Memory → Option SffFault
sff8472_fault Inventory memory = sff8472.module_fault memory
sff8472_fault Monitors memory = sff8472.measured_fault memory
sff8472_fault Flags memory = sff8472.flags_fault memory

-- of a module of this family
abbrev pub fault_in : Report → Family → Memory → Option DecodeFault
fault_in report families.Cmis memory = lacked (absent_page (pages_of report (is_flat memory)) memory)
fault_in report families.Sff8636 memory = of_sff (sff8636_fault report memory)
fault_in report families.Sff8472 memory = of_sff (sff8472_fault report memory)

unfoldable pub fault_of : Report → Memory → Option DecodeFault
fault_of report memory = option_or (option_map (λ fault. Module fault) (module_fault memory)) (fault_in report (family_of memory) memory)
