-- What one reads of a module's memory once the pages that are needed are known to be there: the values for absent pages (0,
-- an empty text, a wrong sum) stand for nothing. (docs/fields.md, "Fields", "Texts" and "Sums"; this project's own)
use Rattle.std.specs.Prelude.{ℕ, ℤ, Bool, true, false, ◌&&◌, ◌==◌, ◌≤ℤ◌, ◌<ℤ◌, pos, neg_ℤ, unwrap_or, unsigned_abs, nat_le, List, []}
use Rattle.paged_memory.specs.Images.{Memory}
use Rattle.field_tables.specs.declared.field.Field.{Field}
use Rattle.field_tables.specs.declared.field.TextField.{TextField}
use Rattle.field_tables.specs.declared.field.Sum.{Sum}
use Rattle.field_tables.specs.declared.layout.Row.{Row}
use Rattle.field_tables.specs.declared.layout.Sign.{Sign}
use Rattle.field_tables.specs.declared.layout.Sign.TheVariants.{Unsigned, Signed}
use Rattle.field_tables.specs.declared.readings.PerLimit.{PerLimit}
use Rattle.field_tables.specs.RowPlaces.{width_by}
use Rattle.field_tables.specs.FieldValues.{of_each, value_of}
use Rattle.field_tables.specs.Sums.{sum_right_of}
use Rattle.field_tables.specs.Texts.{bytes_of_text}

abbrev pub is_unsigned : Sign → Bool
is_unsigned Unsigned = true
is_unsigned Signed = false

-- a row of numbers of at most eight bits
abbrev pub is_of_bytes : Row → Bool
is_of_bytes row = is_unsigned row.sign && nat_le (width_by row.layout row.bits) 8

-- what 16 bits can say
abbrev pub IsWord : ℤ → Type 0
IsWord z = (neg_ℤ (pos 32768) ≤ℤ z) × (z <ℤ pos 65536)

-- value i of a field
unfoldable pub reading_at : Memory → Field → ℕ → ℤ
reading_at memory field i = unwrap_or (value_of memory field i) (pos 0)

-- the value of a field of one value
abbrev pub reading : Memory → Field → ℤ
reading memory field = reading_at memory field 1

-- the values of a field, the first first
abbrev pub all_readings : Memory → Field → List ℤ
all_readings memory field = of_each field (reading_at memory field)

-- the four values of a field of limits
abbrev pub limits_of : Memory → Field → PerLimit ℤ
limits_of memory field = record {
  high_alarm = reading_at memory field 1;
  low_alarm = reading_at memory field 2;
  high_warning = reading_at memory field 3;
  low_warning = reading_at memory field 4;
}

abbrev pub LimitsAreWords : PerLimit ℤ → Type 0
LimitsAreWords limits = IsWord limits.high_alarm × IsWord limits.low_alarm × IsWord limits.high_warning × IsWord limits.low_warning

-- value i of a field of numbers
abbrev pub number_at : Memory → Field → ℕ → ℕ
number_at memory field i = unsigned_abs (reading_at memory field i)

-- the value of a field of one number
abbrev pub number : Memory → Field → ℕ
number memory field = number_at memory field 1

-- the values of a field of numbers, the first first
abbrev pub all_numbers : Memory → Field → List ℕ
all_numbers memory field = of_each field (number_at memory field)

-- whether value i of a field of bits is 1
abbrev pub bit_at : Memory → Field → ℕ → Bool
bit_at memory field i = number_at memory field i == 1

-- whether the value of a field of one bit is 1
abbrev pub bit : Memory → Field → Bool
bit memory field = bit_at memory field 1

-- whether each value of a field of bits is 1, the first first
abbrev pub all_bits : Memory → Field → List Bool
all_bits memory field = of_each field (bit_at memory field)

-- the four values of a field of flags
abbrev pub limit_bits : Memory → Field → PerLimit Bool
limit_bits memory field = record {
  high_alarm = bit_at memory field 1;
  low_alarm = bit_at memory field 2;
  high_warning = bit_at memory field 3;
  low_warning = bit_at memory field 4;
}

-- the bytes of a text
abbrev pub text : Memory → TextField → List ℕ
text memory field = unwrap_or (bytes_of_text memory field) []

abbrev pub is_sum_right : Memory → Sum → Bool
is_sum_right memory sum = unwrap_or (sum_right_of memory sum) false
