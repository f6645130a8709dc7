-- What a reading is to request for the lanes above 8 of a module, in C. (docs/firmware.md, "Reading a module"; OIF-CMIS-05.0,
-- "Management Memory Map", page 01h byte 142)
use Rattle.std.specs.Prelude.{ℕ, ◌||◌, nat_lt, Bool, Option, Some, None, if◌then◌else◌}
use Rattle.paged_memory.specs.declared.family.Family.{Family}
use Rattle.paged_memory.specs.declared.family.Family.TheVariants.{Cmis}
use Rattle.paged_memory.specs.Images.{Memory}
use Rattle.module_decoding.specs.declared.module_family.ModuleFault.{ModuleFault}
use Rattle.module_decoding.specs.CmisPages.{is_flat}
use Rattle.module_decoding.specs.ModuleFamilies.{detail_family_of, detail_fault}
use Rattle.module_reading.specs.Regions.{of_banks}
use Rattle.observables.specs.Banks.{bank_count}

-- page 11h of each bank but the first; 0 if there is no other, as in flat memory
abbrev pub requested_of : Bool → ℕ → ℕ
requested_of flat banks = if flat || nat_lt banks 2 then 0 else (of_banks banks).halves

-- modules of CMIS alone have banks
abbrev pub banks_of_family : Family → Memory → ℕ
banks_of_family Cmis memory = requested_of (is_flat memory) (bank_count memory)
banks_of_family family memory = 0

-- nothing of a module that is not read
abbrev pub unless_unread : Option ModuleFault → ℕ → ℕ
unless_unread None requested = requested
unless_unread (Some fault) requested = 0

abbrev pub further_banks : Memory → ℕ
further_banks memory = unless_unread (detail_fault memory) (banks_of_family (detail_family_of memory) memory)
