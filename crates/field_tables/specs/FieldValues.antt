-- The values of a field in a module's memory. (docs/fields.md, "Places and layouts"; this project's own)
use Rattle.std.specs.Prelude.{ℕ, ℤ, Bool, ◌/◌, ◌%◌, ◌^◌, ◌==◌, List, Option, map, option_map}
use Rattle.std.specs.List.{range_with_len}
use Rattle.std.specs.FinMap as map
use Rattle.paged_memory.specs.declared.key.Key.{Key}
use Rattle.paged_memory.specs.Images.{Memory}
use Rattle.field_tables.specs.declared.field.Field.{Field}
use Rattle.field_tables.specs.declared.layout.Row.{Row}
use Rattle.field_tables.specs.FieldRows.{row_of}
use Rattle.field_tables.specs.Halves.{byte_in, half_key}
use Rattle.field_tables.specs.Numbers.{number_in, signed_by}
use Rattle.field_tables.specs.Parts.{low_of, part_width}
use Rattle.field_tables.specs.RowPlaces.{place_of}

-- value i of a row, in the bytes of its half
abbrev pub row_value : List ℕ → Row → ℕ → ℤ
row_value bytes row i = signed_by row.sign (number_in (byte_in bytes) (place_of row i))

-- value i of a field
unfoldable pub value_in : List ℕ → Field → ℕ → ℤ
value_in bytes field i = row_value bytes (row_of field) i

-- something of each value of a field by its number, the first first
abbrev pub of_each : {A : Type 0} → Field → (ℕ → A) → List A
of_each field of = map of (range_with_len 1 (row_of field).count)

-- all values of a field, the first first
abbrev pub values_in : List ℕ → Field → List ℤ
values_in bytes field = of_each field (value_in bytes field)

-- the half that a field stands in
abbrev pub field_key : Field → Key
field_key field = half_key (row_of field).dev (row_of field).half (row_of field).page

-- the values of a field, if memory has its half
abbrev pub values_of : Memory → Field → Option (List ℤ)
values_of memory field = option_map (λ bytes. values_in bytes field) (map.get memory (field_key field))

-- value i of a field, if memory has its half
abbrev pub value_of : Memory → Field → ℕ → Option ℤ
value_of memory field i = option_map (λ bytes. value_in bytes field i) (map.get memory (field_key field))

-- the number of a field that is some bits of one byte, in that byte
abbrev pub number_in_byte : Field → ℕ → ℕ
number_in_byte field byte = byte / 2 ^ low_of (row_of field).bits % 2 ^ part_width (row_of field).bits

-- a field of one bit is 1 in its byte
abbrev pub is_set : Field → ℕ → Bool
is_set field byte = number_in_byte field byte == 1
