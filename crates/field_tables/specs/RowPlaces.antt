-- Where the values of a row stand in its half. (docs/fields.md, "Places and layouts"; this project's own)
use Rattle.std.specs.Prelude.{ℕ, ◌^◌, ℤ, pos, neg_ℤ, ◌≤ℤ◌, ◌<ℤ◌}
use Rattle.field_tables.specs.declared.layout.Layout.{Layout}
use Rattle.field_tables.specs.declared.layout.Layout.TheVariants.{Single, Every, Bits, Down, Nibbles, Quad}
use Rattle.field_tables.specs.declared.layout.Part.{Part}
use Rattle.field_tables.specs.declared.layout.Row.{Row}
use Rattle.field_tables.specs.declared.layout.Sign.{Sign}
use Rattle.field_tables.specs.declared.layout.Sign.TheVariants.{Unsigned, Signed}
use Rattle.field_tables.specs.Layouts.{Place, single, every, bits, down, nibbles, quad}
use Rattle.field_tables.specs.Parts.{high_of, low_of, part_at, part_width}

abbrev pub place_by : Layout → Part → ℕ → ℕ → Place
place_by Single part = single (part_at part)
place_by (Every step) part = every step (part_at part)
place_by Bits part = bits (low_of part)
place_by Down part = down (high_of part)
place_by Nibbles part = nibbles
place_by (Quad bit) part = quad bit

-- the place of value i, its bytes by their addresses
abbrev pub place_of : Row → ℕ → Place
place_of row i = place_by row.layout row.bits row.offset i

-- how many bits a value has
abbrev pub width_by : Layout → Part → ℕ
width_by Single part = part_width part
width_by (Every step) part = part_width part
width_by Nibbles part = 4
width_by _ part = 1

-- what a value of so many bits can be
abbrev pub IsWithin : Sign → ℕ → ℤ → Type 0
IsWithin Unsigned width value = (pos 0 ≤ℤ value) × (value <ℤ pos (2 ^ width))
IsWithin Signed width value = (neg_ℤ (pos 32768) ≤ℤ value) × (value <ℤ pos 32768)

-- what a value of a row can be
abbrev pub IsInRange : Row → ℤ → Type 0
IsInRange row value = IsWithin row.sign (width_by row.layout row.bits) value
