-- How many bits the place of a value has.
use Rattle.std.proofs.Common.{◌≡◌, ℕ, zero, suc, ◌^◌, ◌<◌, length, refl, sym, subst, ap}
use Rattle.field_tables.specs.declared.layout.Layout.{Layout}
use Rattle.field_tables.specs.declared.layout.Layout.TheVariants.{Single, Every, Bits, Down, Nibbles, Quad}
use Rattle.field_tables.specs.declared.layout.Part.{Part}
use Rattle.field_tables.specs.declared.layout.Part.TheVariants.{Byte, Word, Range}
use Rattle.field_tables.specs.Layouts.{bits_up}
use Rattle.field_tables.specs.Parts.{part_at, part_width}
use Rattle.field_tables.specs.declared.layout.Row.{Row}
use Rattle.field_tables.specs.Numbers.{number_in}
use Rattle.field_tables.specs.RowPlaces.{place_by, place_of, width_by}
use Rattle.field_tables.proofs.PlaceNumbers.{number-bound}

length-bits_up : (byte low count : ℕ) → length (bits_up byte low count) ≡ count
length-bits_up byte low zero = refl
length-bits_up byte low (suc count) = ap suc (length-bits_up byte (suc low) count)

length-part_at : (part : Part) (byte : ℕ) → length (part_at part byte) ≡ part_width part
length-part_at Byte byte = refl
length-part_at Word byte = refl
length-part_at (Range high low) byte = length-bits_up byte low (part_width (Range high low))

pub length-place_by : (layout : Layout) (part : Part) (byte i : ℕ) → length (place_by layout part byte i) ≡ width_by layout part
length-place_by Single part byte i = length-part_at part byte
length-place_by (Every step) part byte i = length-part_at part _
length-place_by Bits part byte i = refl
length-place_by Down part byte i = refl
length-place_by Nibbles part byte i = refl
length-place_by (Quad bit) part byte i = refl

-- what is in a row's place is below the power of its width
pub number-below : (byte_at : ℕ → ℕ) (row : Row) (i n : ℕ) → n ≡ number_in byte_at (place_of row i) → n < 2 ^ width_by row.layout row.bits
number-below byte_at row i n is =
    subst (λ (m : ℕ). m < 2 ^ width_by row.layout row.bits) (sym is)
    (subst (λ (width : ℕ). number_in byte_at (place_of row i) < 2 ^ width) (length-place_by row.layout row.bits row.offset i) (number-bound byte_at (place_of row i)))
