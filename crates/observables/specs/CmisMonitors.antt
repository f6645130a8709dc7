-- What modules of CMIS measure at fixed places. (OIF-CMIS-05.0, "Module-Level Monitor Values" and "Module-Level Flags" of lower memory,
-- "Supported Monitors Advertisement" of page 01h, the monitor thresholds of page 02h, "Lane-Specific Monitors" and their flags of page
-- 11h)
use Rattle.std.specs.Prelude.{ℕ, ◌+◌, ◌==◌, if◌then◌else◌, Option, Some, None, option_and_then}
use Rattle.paged_memory.specs.Images.{Memory}
use Rattle.field_tables.specs.declared.field.Field.{Field}
use Rattle.field_tables.specs.declared.field.Field.TheVariants as fields
use Rattle.field_tables.specs.declared.table.cmis.CmisField.TheVariants as cmis
use Rattle.field_tables.specs.declared.readings.PerLimit.{PerLimit}
use Rattle.field_tables.specs.Readings.{bit_at}
use Rattle.observables.specs.declared.monitor.BitPlace.{BitPlace}
use Rattle.observables.specs.declared.monitor.Correction.TheVariants.{Plain, Multiplied}
use Rattle.observables.specs.declared.monitor.Monitor.{Monitor}
use Rattle.observables.specs.declared.quantity.Quantity.{Quantity}
use Rattle.observables.specs.declared.quantity.Quantity.TheVariants as quantities
use Rattle.observables.specs.declared.quantity.Scope.TheVariants.{Module, Lane}
use Rattle.observables.specs.Monitors.{advertised_by, bits_in_row, bits_of_lanes, limited, monitor}

abbrev pub tx_power_flags : PerLimit BitPlace
tx_power_flags = bits_of_lanes (fields.Cmis cmis.TxPowerHighAlarm) (fields.Cmis cmis.TxPowerLowAlarm) (fields.Cmis cmis.TxPowerHighWarning) (fields.Cmis cmis.TxPowerLowWarning)

abbrev pub tx_bias_flags : PerLimit BitPlace
tx_bias_flags = bits_of_lanes (fields.Cmis cmis.TxBiasHighAlarm) (fields.Cmis cmis.TxBiasLowAlarm) (fields.Cmis cmis.TxBiasHighWarning) (fields.Cmis cmis.TxBiasLowWarning)

abbrev pub rx_power_flags : PerLimit BitPlace
rx_power_flags = bits_of_lanes (fields.Cmis cmis.RxPowerHighAlarm) (fields.Cmis cmis.RxPowerLowAlarm) (fields.Cmis cmis.RxPowerHighWarning) (fields.Cmis cmis.RxPowerLowWarning)

-- an auxiliary monitor has a meaning only if it is advertised: what it measures where the bit of its kind is 0, and where it is 1
abbrev pub auxiliary : Memory → ℕ → Field → Option Quantity → Option Quantity → Option Monitor
auxiliary memory number values at_0 at_1 =
    let measured = if bit_at memory (fields.Cmis cmis.AuxKinds) number then at_1 else at_0 in
    let advert = number + 2 in
    if bit_at memory (fields.Cmis cmis.ModuleMonitors) advert then option_and_then (λ quantity. monitor quantity Module values None (advertised_by (fields.Cmis cmis.ModuleMonitors) advert) Plain) measured else None

-- quantity, of the module or of each lane, values, limits with flags, advert, correction
abbrev pub cmis_monitor : Memory → ℕ → Option Monitor
cmis_monitor memory number =
    if number == 0 then monitor quantities.Temperature Module (fields.Cmis cmis.Temperature) (limited (fields.Cmis cmis.TempLimits) (bits_in_row (fields.Cmis cmis.ModuleFlag) 1)) (advertised_by (fields.Cmis cmis.ModuleMonitors) 1) Plain
    else if number == 1 then monitor quantities.SupplyVoltage Module (fields.Cmis cmis.Vcc) (limited (fields.Cmis cmis.VccLimits) (bits_in_row (fields.Cmis cmis.ModuleFlag) 5)) (advertised_by (fields.Cmis cmis.ModuleMonitors) 2) Plain
    else if number == 2 then auxiliary memory 1 (fields.Cmis cmis.Aux1) None (Some quantities.TecCurrentShare)
    else if number == 3 then auxiliary memory 2 (fields.Cmis cmis.Aux2) (Some quantities.LaserTemperature) (Some quantities.TecCurrentShare)
    else if number == 4 then auxiliary memory 3 (fields.Cmis cmis.Aux3) (Some quantities.LaserTemperature) (Some quantities.SecondSupplyVoltage)
    else if number == 5 then monitor quantities.TransmittedPower Lane (fields.Cmis cmis.TxPower) (limited (fields.Cmis cmis.TxPowerLimits) tx_power_flags) (advertised_by (fields.Cmis cmis.TxPowerMonitor) 1) Plain
    else if number == 6 then monitor quantities.LaserBias Lane (fields.Cmis cmis.TxBias) (limited (fields.Cmis cmis.TxBiasLimits) tx_bias_flags) (advertised_by (fields.Cmis cmis.TxBiasMonitor) 1) Multiplied
    else if number == 7 then monitor quantities.ReceivedPower Lane (fields.Cmis cmis.RxPower) (limited (fields.Cmis cmis.RxPowerLimits) rx_power_flags) (advertised_by (fields.Cmis cmis.RxPowerMonitor) 1) Plain
    else None
