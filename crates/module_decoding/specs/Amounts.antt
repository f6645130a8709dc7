-- Amounts in thousandths of the unit that they print in. (docs/fields.md, "Units"; OIF-CMIS-05.0, "Supported Monitors
-- Advertisement" of page 01h, and the cable length of page 00h)
use Rattle.std.specs.Prelude.{ℕ, ◌*◌, ◌^◌, ◌==◌, ◌&&◌, Bool, true, nat_le, ℤ, pos, ◌*ℤ◌, Option, Some, None, unwrap_or}
use Rattle.paged_memory.specs.Images.{Memory}
use Rattle.field_tables.specs.declared.field.Field.{Field}
use Rattle.field_tables.specs.declared.readings.PerLimit.{PerLimit}
use Rattle.field_tables.specs.declared.units.Unit.{Unit}
use Rattle.field_tables.specs.declared.units.Unit.TheVariants as units
use Rattle.field_tables.specs.FieldRows.{row_of}
use Rattle.field_tables.specs.Readings.{is_of_bytes, number, reading_at}
use Rattle.field_tables.specs.RowPlaces.{width_by}
use Rattle.field_tables.specs.Units.{millis_of}

-- the unit that the field's row names
abbrev pub unit_of : Field → Unit
unit_of field = unwrap_or (row_of field).unit units.ModulePower

-- as often as the number says
abbrev pub doubled : ℤ → ℕ → ℤ
doubled steps power = steps *ℤ pos (2 ^ power)

-- steps that count more, by a field that says how often they are doubled
abbrev pub times : Memory → ℤ → Option Field → ℤ
times memory steps None = steps
times memory steps (Some power) = doubled steps (number memory power)

-- value i of a field in thousandths of its unit
unfoldable pub amount_at : Memory → Field → Option Field → ℕ → ℤ
amount_at memory field power i = millis_of (times memory (reading_at memory field i) power) (unit_of field)

-- the four values of a field of limits
abbrev pub limit_amounts : Memory → Field → Option Field → PerLimit ℤ
limit_amounts memory field power = record {
  high_alarm = amount_at memory field power 1;
  low_alarm = amount_at memory field power 2;
  high_warning = amount_at memory field power 3;
  low_warning = amount_at memory field power 4;
}

-- tenths of a metre, times ten to the power of the second field: in thousandths of a metre
abbrev pub length_in : Memory → Field → Field → ℤ
length_in memory base power = pos (number memory base * 100 * 10 ^ number memory power)

-- ---- what each field keeps to

-- one number of at most two bits
abbrev pub is_power : Field → Bool
is_power field = is_of_bytes (row_of field) && (row_of field).count == 1 && nat_le (width_by (row_of field).layout (row_of field).bits) 2

abbrev pub power_fits : Option Field → Bool
power_fits None = true
power_fits (Some field) = is_power field
