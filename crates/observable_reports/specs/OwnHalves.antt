-- The halves that observables are told from: of an image those that its module has, by what the lower half says. Flat memory has no page
-- but 00h; without diagnostics, or where an address change has to come first, there is no device A2.
-- (OIF-CMIS-05.0, "Management Characteristics"; SFF-8636, "Status Indicators"; SFF-8472, "Diagnostic Monitoring Type")
use Rattle.std.specs.Prelude.{Bool, if◌then◌else◌}
use Rattle.std.specs.FinMap as map
use Rattle.std.specs.Option.{option_map_or}
use Rattle.bus_model.specs.declared.device.Dev.TheVariants.{A0}
use Rattle.module_decoding.specs.ModuleFamilies.{detail_family_of}
use Rattle.module_details.specs.Families.{lacks_diagnostics}
use Rattle.paged_memory.specs.declared.family.Family.{Family}
use Rattle.paged_memory.specs.declared.family.Family.TheVariants as families
use Rattle.paged_memory.specs.declared.key.Key.{Key}
use Rattle.paged_memory.specs.Images.{Memory}
use Rattle.paged_memory.specs.Keys.{lower_key, upper_key}
use Rattle.reports.specs.Reports.{is_flat_in}

-- a module of this family has its lower half and page 00h alone
abbrev pub has_no_more : Family → Memory → Bool
has_no_more families.Sff8472 memory = lacks_diagnostics memory
has_no_more family memory = is_flat_in family memory

-- a half of a memory, if that has it, beside others
abbrev pub with_half : Memory → Key → Memory → Memory
with_half from key memory = option_map_or (λ bytes. map.insert memory key bytes) (map.get from key) memory

abbrev pub first_halves : Memory → Memory
first_halves memory = with_half memory (upper_key A0 0 0x00) (with_half memory (lower_key A0) map.empty)

-- of a module of this family
abbrev pub own_of : Family → Memory → Memory
own_of family memory = if has_no_more family memory then first_halves memory else memory

unfoldable pub own_halves : Memory → Memory
own_halves memory = own_of (detail_family_of memory) memory
