-- Halves of a module's memory by device, half and page: rows name pages of bank 0 alone.
-- (OIF-CMIS-05.0, "Management Memory Map"; SFF-8636, "Memory Map"; SFF-8472, "Memory Organization")
use Rattle.std.specs.Prelude.{ℕ, Bool, not, ◌&&◌, nat_le, nat_lt, List, slice_index}
use Rattle.std.specs.FinMap as map
use Rattle.bus_model.specs.declared.device.Dev.{Dev}
use Rattle.paged_memory.specs.declared.key.Half.{Half}
use Rattle.paged_memory.specs.declared.key.Half.TheVariants.{Lower, Upper}
use Rattle.paged_memory.specs.declared.key.Key.{Key}
use Rattle.paged_memory.specs.Images.{Memory, place_in_half}
use Rattle.paged_memory.specs.Keys.{lower_key, upper_key}
use Rattle.field_tables.specs.declared.fault.FieldFault.{FieldFault}

abbrev pub half_key : Dev → Half → ℕ → Key
half_key dev Lower page = lower_key dev
half_key dev Upper page = upper_key dev 0 page

-- the addresses of a half
abbrev pub address_fits : Half → ℕ → Bool
address_fits Lower address = nat_lt address 128
address_fits Upper address = nat_le 128 address && nat_lt address 256

-- the byte that a half shows at an address
abbrev pub byte_in : List ℕ → ℕ → ℕ
byte_in bytes address = slice_index bytes (place_in_half address)

abbrev pub is_absent : Memory → Key → Bool
is_absent memory key = not (map.contains_key memory key)

-- the fault if a half isn't there
abbrev pub absent : Key → FieldFault
absent key = record { absent = key }
