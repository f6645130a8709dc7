-- 16-bit words of the upper pages of a bank. (OIF-CMIS-05.0, "Management Memory Map": the most significant byte of a word stands
-- first)
use Rattle.std.specs.Prelude.{ℕ, ◌+◌, ◌-◌, ◌*◌, List, Option, slice_index}
use Rattle.std.specs.FinMap as map
use Rattle.bus_model.specs.declared.device.Dev.TheVariants.{A0}
use Rattle.paged_memory.specs.Images.{Memory}
use Rattle.paged_memory.specs.Keys.{upper_key}

-- the bytes of a page, if memory has it
abbrev pub page_of : Memory → ℕ → ℕ → Option (List ℕ)
page_of memory bank page = map.get memory (upper_key A0 bank page)

-- the byte at an address of an upper page
abbrev pub byte_in : List ℕ → ℕ → ℕ
byte_in bytes address = slice_index bytes (address - 128)

-- the word whose first byte is at an address
abbrev pub word_in : List ℕ → ℕ → ℕ
word_in bytes address = byte_in bytes address * 256 + byte_in bytes (address + 1)
