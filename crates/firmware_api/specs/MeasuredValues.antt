-- Values that a module measures and their limits, as C sees them. (docs/firmware.md, "Decoders"; OIF-CMIS-05.0, "Supported
-- Monitors Advertisement" of page 01h, the monitor thresholds of page 02h and "Lane-Specific Monitors" of page 11h)
use Rattle.std.specs.Prelude.{ℕ, ◌==◌, nat_le, if◌then◌else◌, Bool, true, false, ℤ, pos, List, map, replicate, Option, Some, None}
use Rattle.std.specs.List.{range_with_len}
use Rattle.paged_memory.specs.Images.{Memory}
use Rattle.field_tables.specs.declared.field.Field.{Field}
use Rattle.field_tables.specs.declared.readings.PerLimit.{PerLimit}
use Rattle.field_tables.specs.FieldRows.{row_of}
use Rattle.field_tables.specs.Readings.{number}
use Rattle.module_decoding.specs.Amounts.{amount_at, limit_amounts}
use Rattle.firmware_api.specs.declared.measured_values.LaneValues.{LaneValues}
use Rattle.firmware_api.specs.declared.measured_values.Limits.{Limits}
use Rattle.firmware_api.specs.declared.measured_values.ModuleValue.{ModuleValue}

-- ---- whether the lanes' values are measured, by its number for C

abbrev pub unsupported : ℕ
unsupported = 0

abbrev pub measured : ℕ
measured = 1

-- bias is counted by a multiplier whose code the standard reserves
abbrev pub reserved_multiplier : ℕ
reserved_multiplier = 2

-- ---- values and limits

abbrev pub limits_of : PerLimit ℤ → Limits
limits_of levels = record {
  high_alarm = levels.high_alarm;
  low_alarm = levels.low_alarm;
  high_warning = levels.high_warning;
  low_warning = levels.low_warning;
}

abbrev pub no_limits : Limits
no_limits = record { high_alarm = pos 0; low_alarm = pos 0; high_warning = pos 0; low_warning = pos 0 }

-- those of a field, of a module that has limits or has none
abbrev pub limits_in : Memory → Bool → Field → Option Field → Limits
limits_in memory limited field power = if limited then limits_of (limit_amounts memory field power) else no_limits

-- of the module itself
abbrev pub module_value : Memory → Bool → Field → Field → ModuleValue
module_value memory limited field limits = record {
  value = amount_at memory field None 1;
  limits = limits_in memory limited limits None;
}

abbrev pub no_value : ModuleValue
no_value = record { value = pos 0; limits = no_limits }

-- 0 in a lane that the module doesn't have
abbrev pub value_at : Memory → Field → Option Field → ℕ → ℤ
value_at memory field power lane = if nat_le lane (row_of field).count then amount_at memory field power lane else pos 0

-- room for eight lanes
unfoldable pub eight_values : Memory → Field → Option Field → List ℤ
eight_values memory field power = map (value_at memory field power) (range_with_len 1 8)

-- of the lanes
abbrev pub lane_values : Memory → Bool → Field → Option Field → Field → LaneValues
lane_values memory limited field power limits = record {
  values = eight_values memory field power;
  limits = limits_in memory limited limits power;
  support = measured;
}

abbrev pub no_lane_values : ℕ → LaneValues
no_lane_values support = record { values = replicate 8 (pos 0); limits = no_limits; support = support }

abbrev pub is_reserved : Memory → Option Field → Bool
is_reserved memory None = false
is_reserved memory (Some multiplier) = number memory multiplier == 3

-- a CMIS module says what it measures of its lanes
unfoldable pub supported_values : Memory → Field → Field → Option Field → Field → LaneValues
supported_values memory support field multiplier limits =
    if number memory support == 0 then no_lane_values unsupported
    else (if is_reserved memory multiplier then no_lane_values reserved_multiplier
    else lane_values memory true field multiplier limits)
