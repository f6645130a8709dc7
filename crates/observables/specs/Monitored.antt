-- What a module measures at fixed places, and what that amounts to. A value is known only if its half is there. (OIF-CMIS-05.0,
-- "Supported Monitors Advertisement" of page 01h; SFF-8472, "Internal Calibration" and "External Calibration")
use Rattle.std.specs.Prelude.{ℕ, ◌+◌, ◌-◌, ◌==◌, Bool, true, if◌then◌else◌, ℤ, pos, neg_ℤ, int_lt, unsigned_abs, Option, Some, None, is_some, option_map, option_and_then}
use Rattle.std.specs.FinMap as map
use Rattle.external_calibration.specs.Amounts as calibrations
use Rattle.external_calibration.specs.Constants.{constants_of}
use Rattle.external_calibration.specs.Refusals.{refusal_by}
use Rattle.external_calibration.specs.declared.constants.Constants.{Constants}
use Rattle.external_calibration.specs.declared.monitor.Monitor as calibration
use Rattle.external_calibration.specs.declared.monitor.Monitor.TheVariants as sources
use Rattle.field_tables.specs.declared.field.Field.{Field}
use Rattle.field_tables.specs.declared.field.Field.TheVariants as fields
use Rattle.field_tables.specs.declared.table.cmis.CmisField.TheVariants as cmis
use Rattle.field_tables.specs.declared.table.sff8472.Sff8472Field.TheVariants as sff8472
use Rattle.field_tables.specs.declared.readings.PerLimit.{PerLimit}
use Rattle.field_tables.specs.FieldValues.{field_key}
use Rattle.field_tables.specs.Readings.{bit, bit_at, number, reading_at}
use Rattle.paged_memory.specs.Images.{Memory}
use Rattle.observables.specs.declared.amount.Amount.{Amount}
use Rattle.observables.specs.declared.monitor.BitPlace.{BitPlace}
use Rattle.observables.specs.declared.monitor.Bounds.{Bounds}
use Rattle.observables.specs.declared.monitor.Correction.{Correction}
use Rattle.observables.specs.declared.monitor.Correction.TheVariants.{Plain, Multiplied, Calibrated}
use Rattle.observables.specs.declared.monitor.Monitor.{Monitor}
use Rattle.observables.specs.declared.quantity.Quantity.{Quantity}
use Rattle.observables.specs.Amounts.{amount_of, amount_times, steps_of}
use Rattle.observables.specs.Quantities.{quantity_row}

-- ---- amounts

-- memory has the half of a field
abbrev pub is_present : Memory → Field → Bool
is_present memory field = map.contains_key memory (field_key field)

-- the 16 bits of a value, of a negative one in two's complement
abbrev pub bits_of : ℤ → ℕ
bits_of value = if int_lt value (pos 0) then 65536 - unsigned_abs value else unsigned_abs value

-- the 16 bits of value i of a field
abbrev pub word_at : Memory → Field → ℕ → Option ℕ
word_at memory field i = if is_present memory field then Some (bits_of (reading_at memory field i)) else None

-- words of bias count once, twice or four times; another code is reserved
abbrev pub multiplier : Memory → Option ℕ
multiplier memory =
    if number memory (fields.Cmis cmis.BiasMultiplier) == 0 then Some 1
    else if number memory (fields.Cmis cmis.BiasMultiplier) == 1 then Some 2
    else if number memory (fields.Cmis cmis.BiasMultiplier) == 2 then Some 4
    else None

-- a thousandth of a degree Celsius, of a millivolt, of a milliampere and of a microwatt, as a power of ten of the quantity's unit
abbrev pub power_of_thousandths : calibration.Monitor → ℤ
power_of_thousandths sources.Temperature = neg_ℤ (pos 3)
power_of_thousandths sources.Vcc = neg_ℤ (pos 6)
power_of_thousandths sources.TxBias = neg_ℤ (pos 3)
power_of_thousandths sources.TxPower = neg_ℤ (pos 6)
power_of_thousandths sources.RxPower = neg_ℤ (pos 6)

-- calibrated by the host, rounded down to a thousandth, unless the constants are refused
abbrev pub calibrated : Constants → calibration.Monitor → Quantity → ℕ → Option Amount
calibrated constants monitor quantity word =
    if is_some (refusal_by constants monitor) then None else Some (record {
      mantissa = calibrations.amount_of constants monitor (steps_of (quantity_row quantity).format word);
      exponent = power_of_thousandths monitor;
      divisor = 1;
    })

-- what a word amounts to, corrected
abbrev pub corrected : Memory → Correction → Quantity → ℕ → Option Amount
corrected memory Plain quantity word = Some (amount_of quantity word)
corrected memory Multiplied quantity word = option_map (λ factor. amount_times quantity factor word) (multiplier memory)
corrected memory (Calibrated monitor) quantity word =
    if bit memory (fields.Sff8472 sff8472.External) then calibrated (constants_of memory) monitor quantity word else Some (amount_of quantity word)

unfoldable pub amount_at : Memory → Monitor → Field → ℕ → Option Amount
amount_at memory monitor field i = option_and_then (corrected memory monitor.correction monitor.quantity) (word_at memory field i)

-- ---- limits

abbrev pub no_limits : PerLimit (Option Amount)
no_limits = record { high_alarm = None; low_alarm = None; high_warning = None; low_warning = None }

abbrev pub limits_in : Memory → Monitor → Field → PerLimit (Option Amount)
limits_in memory monitor field = record {
  high_alarm = amount_at memory monitor field 1;
  low_alarm = amount_at memory monitor field 2;
  high_warning = amount_at memory monitor field 3;
  low_warning = amount_at memory monitor field 4;
}

abbrev pub limits_by : Memory → Monitor → Option Bounds → PerLimit (Option Amount)
limits_by memory monitor None = no_limits
limits_by memory monitor (Some bounds) = limits_in memory monitor bounds.limits

unfoldable pub limit_amounts : Memory → Monitor → PerLimit (Option Amount)
limit_amounts memory monitor = limits_by memory monitor monitor.bounds

-- ---- flags and adverts

-- the bit of a lane, which is counted from 1
abbrev pub bit_in_lane : Memory → BitPlace → ℕ → Bool
bit_in_lane memory place lane = bit_at memory place.field (place.first + (lane - 1))

abbrev pub bits_in_lane : Memory → PerLimit BitPlace → ℕ → PerLimit Bool
bits_in_lane memory places lane = record {
  high_alarm = bit_in_lane memory places.high_alarm lane;
  low_alarm = bit_in_lane memory places.low_alarm lane;
  high_warning = bit_in_lane memory places.high_warning lane;
  low_warning = bit_in_lane memory places.low_warning lane;
}

abbrev pub flags_in_lane : Memory → Option Bounds → ℕ → Option (PerLimit Bool)
flags_in_lane memory bounds lane = option_map (λ those. bits_in_lane memory those.flags lane) bounds

-- by its bit, or because each module of the standard has it
abbrev pub is_advertised : Memory → Option BitPlace → Bool
is_advertised memory None = true
is_advertised memory (Some place) = bit_in_lane memory place 1
