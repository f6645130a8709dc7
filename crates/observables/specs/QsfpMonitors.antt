-- What modules of SFF-8636 measure. (SFF-8636, "Free Side Device Monitors", "Channel Monitors", their thresholds and flags, and
-- "Diagnostic Monitoring Type")
use Rattle.std.specs.Prelude.{ℕ, ◌==◌, if◌then◌else◌, Option, None}
use Rattle.field_tables.specs.declared.field.Field.TheVariants as fields
use Rattle.field_tables.specs.declared.table.sff8636.Sff8636Field.TheVariants as sff8636
use Rattle.field_tables.specs.declared.readings.PerLimit.{PerLimit}
use Rattle.observables.specs.declared.monitor.BitPlace.{BitPlace}
use Rattle.observables.specs.declared.monitor.Correction.TheVariants.{Plain}
use Rattle.observables.specs.declared.monitor.Monitor.{Monitor}
use Rattle.observables.specs.declared.quantity.Quantity.TheVariants as quantities
use Rattle.observables.specs.declared.quantity.Scope.TheVariants.{Module, Lane}
use Rattle.observables.specs.Monitors.{advertised_by, bits_in_row, bits_of_lanes, limited, monitor}

abbrev pub tx_power_flags : PerLimit BitPlace
tx_power_flags = bits_of_lanes (fields.Sff8636 sff8636.TxPowerHighAlarm) (fields.Sff8636 sff8636.TxPowerLowAlarm) (fields.Sff8636 sff8636.TxPowerHighWarning) (fields.Sff8636 sff8636.TxPowerLowWarning)

abbrev pub tx_bias_flags : PerLimit BitPlace
tx_bias_flags = bits_of_lanes (fields.Sff8636 sff8636.TxBiasHighAlarm) (fields.Sff8636 sff8636.TxBiasLowAlarm) (fields.Sff8636 sff8636.TxBiasHighWarning) (fields.Sff8636 sff8636.TxBiasLowWarning)

abbrev pub rx_power_flags : PerLimit BitPlace
rx_power_flags = bits_of_lanes (fields.Sff8636 sff8636.RxPowerHighAlarm) (fields.Sff8636 sff8636.RxPowerLowAlarm) (fields.Sff8636 sff8636.RxPowerHighWarning) (fields.Sff8636 sff8636.RxPowerLowWarning)

-- quantity, of the module or of each lane, values, limits with flags, advert, correction
abbrev pub qsfp_monitor : ℕ → Option Monitor
qsfp_monitor number =
    if number == 0 then monitor quantities.Temperature Module (fields.Sff8636 sff8636.Temperature) (limited (fields.Sff8636 sff8636.TempLimits) (bits_in_row (fields.Sff8636 sff8636.TempFlag) 1)) (advertised_by (fields.Sff8636 sff8636.Monitors) 4) Plain
    else if number == 1 then monitor quantities.SupplyVoltage Module (fields.Sff8636 sff8636.Vcc) (limited (fields.Sff8636 sff8636.VccLimits) (bits_in_row (fields.Sff8636 sff8636.VccFlag) 1)) (advertised_by (fields.Sff8636 sff8636.Monitors) 3) Plain
    else if number == 2 then monitor quantities.TransmittedPower Lane (fields.Sff8636 sff8636.TxPower) (limited (fields.Sff8636 sff8636.TxPowerLimits) tx_power_flags) (advertised_by (fields.Sff8636 sff8636.Monitors) 1) Plain
    else if number == 3 then monitor quantities.LaserBias Lane (fields.Sff8636 sff8636.TxBias) (limited (fields.Sff8636 sff8636.TxBiasLimits) tx_bias_flags) None Plain
    else if number == 4 then monitor quantities.ReceivedPower Lane (fields.Sff8636 sff8636.RxPower) (limited (fields.Sff8636 sff8636.RxPowerLimits) rx_power_flags) None Plain
    else None
