-- What modules of SFF-8472 measure. (SFF-8472, "Real Time Diagnostic and Control Registers", "Alarm and Warning Thresholds",
-- "Alarm and Warning Flag Bits", "Diagnostic Monitoring Type" and "Option Values")
use Rattle.std.specs.Prelude.{ℕ, ◌==◌, if◌then◌else◌, Option, None}
use Rattle.external_calibration.specs.declared.monitor.Monitor.TheVariants as calibrations
use Rattle.field_tables.specs.declared.field.Field.TheVariants as fields
use Rattle.field_tables.specs.declared.table.sff8472.Sff8472Field.TheVariants as sff8472
use Rattle.field_tables.specs.declared.readings.PerLimit.{PerLimit}
use Rattle.observables.specs.declared.monitor.BitPlace.{BitPlace}
use Rattle.observables.specs.declared.monitor.Correction.TheVariants.{Plain, Calibrated}
use Rattle.observables.specs.declared.monitor.Monitor.{Monitor}
use Rattle.observables.specs.declared.quantity.Quantity.TheVariants as quantities
use Rattle.observables.specs.declared.quantity.Scope.TheVariants.{Module, Lane}
use Rattle.observables.specs.Monitors.{advertised_by, bits_in_pairs, limited, monitor}

-- high, then low
abbrev pub flags_from : ℕ → PerLimit BitPlace
flags_from first = bits_in_pairs (fields.Sff8472 sff8472.Alarms) (fields.Sff8472 sff8472.Warnings) first

abbrev pub rx_power_flags : PerLimit BitPlace
rx_power_flags = bits_in_pairs (fields.Sff8472 sff8472.RxAlarms) (fields.Sff8472 sff8472.RxWarnings) 1

-- quantity, of the module or of each lane, values, limits with flags, advert, correction
abbrev pub sfp_monitor : ℕ → Option Monitor
sfp_monitor number =
    if number == 0 then monitor quantities.Temperature Module (fields.Sff8472 sff8472.Temperature) (limited (fields.Sff8472 sff8472.TempLimits) (flags_from 1)) (advertised_by (fields.Sff8472 sff8472.DiagPresent) 1) (Calibrated calibrations.Temperature)
    else if number == 1 then monitor quantities.SupplyVoltage Module (fields.Sff8472 sff8472.Vcc) (limited (fields.Sff8472 sff8472.VccLimits) (flags_from 3)) (advertised_by (fields.Sff8472 sff8472.DiagPresent) 1) (Calibrated calibrations.Vcc)
    else if number == 2 then monitor quantities.TransmittedPower Lane (fields.Sff8472 sff8472.TxPower) (limited (fields.Sff8472 sff8472.TxPowerLimits) (flags_from 7)) (advertised_by (fields.Sff8472 sff8472.DiagPresent) 1) (Calibrated calibrations.TxPower)
    else if number == 3 then monitor quantities.LaserBias Lane (fields.Sff8472 sff8472.TxBias) (limited (fields.Sff8472 sff8472.TxBiasLimits) (flags_from 5)) (advertised_by (fields.Sff8472 sff8472.DiagPresent) 1) (Calibrated calibrations.TxBias)
    else if number == 4 then monitor quantities.ReceivedPower Lane (fields.Sff8472 sff8472.RxPower) (limited (fields.Sff8472 sff8472.RxPowerLimits) rx_power_flags) (advertised_by (fields.Sff8472 sff8472.DiagPresent) 1) (Calibrated calibrations.RxPower)
    else if number == 5 then monitor quantities.LaserTemperature Module (fields.Sff8472 sff8472.LaserTemperature) None (advertised_by (fields.Sff8472 sff8472.Options) 3) Plain
    else if number == 6 then monitor quantities.TecCurrent Module (fields.Sff8472 sff8472.TecCurrent) None (advertised_by (fields.Sff8472 sff8472.Options) 3) Plain
    else None
