-- What a module of SFF-8472 measures, which the host has to calibrate if the module asks for that. (docs/details.md; SFF-8472,
-- "Diagnostic Monitoring Type", "Internal Calibration" and "External Calibration")
use Rattle.std.specs.Prelude.{ℕ, ◌/◌, ◌&&◌, int_le, int_lt, if◌then◌else◌, Bool, ℤ, pos, unsigned_abs, Option, Some, None, is_none, is_some}
use Rattle.external_calibration.specs.Amounts.{amount_of}
use Rattle.external_calibration.specs.Amounts as amounts
use Rattle.external_calibration.specs.Constants.{constants_of}
use Rattle.external_calibration.specs.Refusals.{refusal_by}
use Rattle.external_calibration.specs.declared.monitor.Monitor.{Monitor}
use Rattle.field_tables.specs.declared.field.Field.{Field}
use Rattle.field_tables.specs.declared.field.Field.TheVariants as fields
use Rattle.field_tables.specs.declared.table.sff8472.Sff8472Field.TheVariants as sff8472
use Rattle.field_tables.specs.Readings.{bit, reading_at}
use Rattle.module_decoding.specs.Amounts.{amount_at, unit_of}
use Rattle.paged_memory.specs.Images.{Memory}
use Rattle.report_entries.specs.Facts as facts
use Rattle.report_entries.specs.Facts.{Fact}
use Rattle.report_entries.specs.PrintedUnits.{printed_in}

-- the constants of a monitor aren't refused
unfoldable pub calibrates : Memory → Monitor → Bool
calibrates memory monitor = is_none (refusal_by (constants_of memory) monitor)

-- value i of a field, calibrated by the host, in thousandths of the printed unit
unfoldable pub calibrated : Memory → Monitor → Field → ℕ → Option ℤ
calibrated memory monitor field i =
    if is_some (refusal_by (constants_of memory) monitor) then None else Some (amount_of (constants_of memory) monitor (reading_at memory field i))

abbrev pub amount_fact : Option ℤ → Monitor → Option Fact
amount_fact None monitor = None
amount_fact (Some millis) monitor = Some (facts.amount millis (printed_in (amounts.unit_of monitor)))

-- value i of a field that a monitor fills
unfoldable pub measured_fact : Memory → Monitor → Field → ℕ → Option Fact
measured_fact memory monitor field i =
    if bit memory (fields.Sff8472 sff8472.External) then amount_fact (calibrated memory monitor field i) monitor
    else Some (facts.amount (amount_at memory field None i) (printed_in (unit_of field)))

-- the standard has powers from 0 to 65,535 tenths of a microwatt
abbrev pub is_power : ℤ → Bool
is_power millis = int_le (pos 0) millis && int_lt millis (pos 6553600)

-- thousandths of a microwatt as whole tenths
abbrev pub power_in : Option ℤ → Option ℕ
power_in None = None
power_in (Some millis) = if is_power millis then Some (unsigned_abs millis / 100) else None

-- the same value of a power, in tenths of a microwatt
unfoldable pub measured_power : Memory → Monitor → Field → ℕ → Option ℕ
measured_power memory monitor field i =
    if bit memory (fields.Sff8472 sff8472.External) then power_in (calibrated memory monitor field i) else Some (unsigned_abs (reading_at memory field i))
