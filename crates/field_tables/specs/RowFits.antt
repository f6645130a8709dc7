-- What each row of the table keeps to: its values stand within its half. (docs/fields.md, "Places and layouts"; this
-- project's own)
use Rattle.std.specs.Prelude.{ℕ, suc, ◌+◌, Bool, true, ◌&&◌, nat_lt, nat_le}
use Rattle.std.specs.List.{list_all, range_with_len}
use Rattle.paged_memory.specs.declared.key.Half.{Half}
use Rattle.field_tables.specs.declared.layout.Layout.{Layout}
use Rattle.field_tables.specs.declared.layout.Layout.TheVariants.{Down}
use Rattle.field_tables.specs.declared.layout.Part.{Part}
use Rattle.field_tables.specs.declared.layout.Part.TheVariants.{Byte, Word, Range}
use Rattle.field_tables.specs.declared.layout.Row.{Row}
use Rattle.paged_memory.specs.Images.{place_in_half}
use Rattle.field_tables.specs.Halves.{address_fits}
use Rattle.field_tables.specs.RowPlaces.{place_of}
use Rattle.field_tables.specs.Parts.{high_of}

-- a bit of the half
abbrev pub in_half : Half → ℕ × ℕ → Bool
in_half half bit = address_fits half bit.0 && nat_lt bit.1 8

-- bits are named from the highest
abbrev pub part_fits : Part → Bool
part_fits (Range high low) = nat_le low high
part_fits _ = true

-- there are enough bits below the named one
abbrev pub steps_fit : Layout → Part → ℕ → Bool
steps_fit Down part count = nat_le count (suc (high_of part))
steps_fit _ part count = true

abbrev pub row_fits : Row → Bool
row_fits row = part_fits row.bits && steps_fit row.layout row.bits row.count && list_all (λ i. list_all (in_half row.half) (place_of row i)) (range_with_len 1 row.count)

-- the bits of a part are in the half that has its byte
abbrev pub part_inside : Part → ℕ → Bool
part_inside Byte address = nat_lt (place_in_half address) 128
part_inside Word address = nat_lt (place_in_half address + 1) 128
part_inside (Range high low) address = nat_lt (place_in_half address) 128 && nat_le low high && nat_lt high 8
