-- A module's memory: a finite map from keys to lists of 128 bytes.
-- (OIF-CMIS-05.0, "Management Memory Map"; SFF-8636, "Memory Map"; SFF-8472, "Memory Organization")
use Rattle.std.specs.Prelude.{ℕ, ◌-◌, List, Option, nat_lt, option_map, slice_index, if◌then◌else◌}
use Rattle.std.specs.FinMap as map
use Rattle.bus_model.specs.declared.device.Dev.{Dev}
use Rattle.paged_memory.specs.declared.key.Key.{Key}
use Rattle.paged_memory.specs.Keys.{lower_key, upper_key}
use Rattle.paged_memory.specs.KeyOrder.{key_cmp}

abbrev pub Memory : Type 0
Memory = map.FinMap key_cmp (List ℕ)

-- how many pages a small image has at most
abbrev pub most_pages : ℕ
most_pages = 16

-- how many pages a large image has at most
abbrev pub most_large : ℕ
most_large = 64

-- the key of the half that shows an address of a device while a page of bank 0 is selected
abbrev pub key_at : Dev → ℕ → ℕ → Key
key_at dev page address = if nat_lt address 128 then lower_key dev else upper_key dev 0 page

-- if the half that shows an address has it
abbrev pub place_in_half : ℕ → ℕ
place_in_half address = if nat_lt address 128 then address else address - 128

-- the byte at an address, if there is such a page
abbrev pub byte_at : Memory → Dev → ℕ → ℕ → Option ℕ
byte_at memory dev page address = option_map (λ bytes. slice_index bytes (place_in_half address)) (map.get memory (key_at dev page address))
