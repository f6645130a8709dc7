-- The bits of a value from the byte where it begins. (docs/fields.md, "Places and layouts"; this project's own)
use Rattle.std.specs.Prelude.{ℕ, suc, ◌-◌}
use Rattle.field_tables.specs.declared.layout.Part.{Part}
use Rattle.field_tables.specs.declared.layout.Part.TheVariants.{Byte, Word, Range}
use Rattle.field_tables.specs.Layouts.{Place, bits_up, word}

abbrev pub low_of : Part → ℕ
low_of (Range high low) = low
low_of _ = 0

abbrev pub high_of : Part → ℕ
high_of Byte = 7
high_of Word = 15
high_of (Range high low) = high

-- the bits of a value that begins at a byte
abbrev pub part_at : Part → ℕ → Place
part_at Byte byte = bits_up byte 0 8
part_at Word byte = word byte
part_at (Range high low) byte = bits_up byte low (suc high - low)

abbrev pub part_width : Part → ℕ
part_width Byte = 8
part_width Word = 16
part_width (Range high low) = suc high - low
