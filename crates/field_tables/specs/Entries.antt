-- What the bits of a module's memory mean, entry by entry: no bit means two things of one standard, and each entry is within
-- its half. (docs/fields.md, "Laws"; this project's own)
use Rattle.std.specs.Prelude.{◌≡◌, ℕ, zero, suc, ◌-◌, ◌≤◌, IsTrue, [], ◌++◌, Contains}
use Rattle.paged_memory.specs.declared.family.Family.{Family}
use Rattle.paged_memory.specs.declared.key.Key.{Key}
use Rattle.field_tables.specs.declared.field.Field.{Field}
use Rattle.field_tables.specs.declared.field.TextField.{TextField}
use Rattle.field_tables.specs.declared.field.Sum.{Sum}
use Rattle.field_tables.specs.Layouts.{Place, bits_up}
use Rattle.field_tables.specs.RowPlaces.{place_of}
use Rattle.field_tables.specs.RowFits.{in_half}
use Rattle.field_tables.specs.FieldRows.{row_of, standard_of}
use Rattle.field_tables.specs.FieldValues.{field_key}
use Rattle.field_tables.specs.Texts.{standard_of_text, text_key, text_span}
use Rattle.field_tables.specs.Sums.{standard_of_sum, sum_key, sum_row}

pub data Entry : Type 0 where
  of_field : Field → Entry
  of_text : TextField → Entry
  of_sum : Sum → Entry

abbrev pub entry_standard : Entry → Family
entry_standard (of_field field) = standard_of field
entry_standard (of_text text) = standard_of_text text
entry_standard (of_sum s) = standard_of_sum s

abbrev pub entry_key : Entry → Key
entry_key (of_field field) = field_key field
entry_key (of_text text) = text_key text
entry_key (of_sum s) = sum_key s

-- how many values it has
abbrev pub entry_count : Entry → ℕ
entry_count (of_field field) = (row_of field).count
entry_count _ = 1

-- the bits of so many bytes
abbrev pub bytes_up : ℕ → ℕ → Place
bytes_up byte zero = []
bytes_up byte (suc count) = bits_up byte 0 8 ++ bytes_up (suc byte) count

abbrev pub entry_place : Entry → ℕ → Place
entry_place (of_field field) i = place_of (row_of field) i
entry_place (of_text text) i = bytes_up (text_span text).first (suc (text_span text).last - (text_span text).first)
entry_place (of_sum s) i = bits_up (sum_row s).1 0 8

-- the bit is one of value i
abbrev pub IsBitOf : Entry → ℕ → ℕ × ℕ → Type 0
IsBitOf entry i bit = (1 ≤ i) × (i ≤ entry_count entry) × Contains (entry_place entry i) bit

-- a bit of a half belongs to one value of one entry of a standard
abbrev pub NoBitTwice : Type 0
NoBitTwice = (a b : Entry) (i j : ℕ) (bit : ℕ × ℕ) → entry_standard a ≡ entry_standard b → entry_key a ≡ entry_key b →
    IsBitOf a i bit → IsBitOf b j bit → (a ≡ b) × (i ≡ j)

-- each bit of an entry is a bit of its half
abbrev pub WithinHalf : Type 0
WithinHalf = (entry : Entry) (i : ℕ) (bit : ℕ × ℕ) → IsBitOf entry i bit → IsTrue (in_half (entry_key entry).half bit)
