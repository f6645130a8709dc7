-- What a module measures, as C sees it. (docs/firmware.md, "Decoders"; OIF-CMIS-05.0, "Module-Level Monitor
-- Values" of lower memory, "Supported Monitors Advertisement" of page 01h, the monitor thresholds of page 02h and "Lane-Specific
-- Monitors" of page 11h; SFF-8636, "Free Side Device Monitors", "Channel Monitors" and their thresholds; SFF-8472, "Real Time
-- Diagnostic and Control Registers" and "Alarm and Warning Thresholds")
use Rattle.std.specs.Prelude.{not, if◌then◌else◌, Bool, true, false, Some, None}
use Rattle.paged_memory.specs.declared.family.Family.{Family}
use Rattle.paged_memory.specs.declared.family.Family.TheVariants as families
use Rattle.paged_memory.specs.Images.{Memory}
use Rattle.field_tables.specs.declared.field.Field.TheVariants as fields
use Rattle.field_tables.specs.declared.table.cmis.CmisField.TheVariants as cmis
use Rattle.field_tables.specs.declared.table.sff8636.Sff8636Field.TheVariants as sff8636
use Rattle.field_tables.specs.declared.table.sff8472.Sff8472Field.TheVariants as sff8472
use Rattle.field_tables.specs.declared.field.Sum.TheVariants as sums
use Rattle.field_tables.specs.declared.field.CmisSum.TheVariants as cmis_sums
use Rattle.field_tables.specs.declared.field.Sff8472Sum.TheVariants as sff8472_sums
use Rattle.field_tables.specs.Readings.{bit, is_sum_right}
use Rattle.module_decoding.specs.CmisPages.{is_flat}
use Rattle.module_decoding.specs.ModuleFamilies.{family_of}
use Rattle.firmware_api.specs.declared.monitors.MeasuredFields.{MeasuredFields}
use Rattle.firmware_api.specs.declared.monitors.ModuleMonitors.{ModuleMonitors}
use Rattle.firmware_api.specs.MeasuredValues.{lane_values, module_value, no_lane_values, no_value, supported_values, unsupported}
use Rattle.firmware_api.specs.Statuses.{family_number, number_of}

-- what a module doesn't tell is 0
abbrev pub no_monitors : ModuleMonitors
no_monitors = record {
  temperature = no_value;
  vcc = no_value;
  tx_power = no_lane_values unsupported;
  tx_bias = no_lane_values unsupported;
  rx_power = no_lane_values unsupported;
  family = 0;
  lanes = 0;
  has_limits = 0;
  sum = 0;
}

-- a CMIS module itself, which has limits or has none
abbrev pub own_monitors : Memory → Bool → ModuleMonitors
own_monitors memory limited = record no_monitors {
  temperature = module_value memory limited (fields.Cmis cmis.Temperature) (fields.Cmis cmis.TempLimits);
  vcc = module_value memory limited (fields.Cmis cmis.Vcc) (fields.Cmis cmis.VccLimits);
  family = family_number families.Cmis;
}

abbrev pub paged_monitors : Memory → ModuleMonitors
paged_monitors memory = record (own_monitors memory true) {
  tx_power = supported_values memory (fields.Cmis cmis.TxPowerMonitor) (fields.Cmis cmis.TxPower) None (fields.Cmis cmis.TxPowerLimits);
  tx_bias = supported_values memory (fields.Cmis cmis.TxBiasMonitor) (fields.Cmis cmis.TxBias) (Some (fields.Cmis cmis.BiasMultiplier)) (fields.Cmis cmis.TxBiasLimits);
  rx_power = supported_values memory (fields.Cmis cmis.RxPowerMonitor) (fields.Cmis cmis.RxPower) None (fields.Cmis cmis.RxPowerLimits);
  lanes = 8;
  has_limits = 1;
  sum = number_of (is_sum_right memory (sums.Cmis cmis_sums.Sum02));
}

-- with flat memory it has neither lanes nor limits
unfoldable pub cmis_monitors : Memory → ModuleMonitors
cmis_monitors memory = if is_flat memory then own_monitors memory false else paged_monitors memory

-- what is measured, by the fields that have it
abbrev pub measured : Memory → Bool → MeasuredFields → ModuleMonitors
measured memory limited at = record no_monitors {
  temperature = module_value memory limited at.temperature at.temperature_limits;
  vcc = module_value memory limited at.vcc at.vcc_limits;
  tx_power = lane_values memory limited at.tx_power None at.tx_power_limits;
  tx_bias = lane_values memory limited at.tx_bias None at.tx_bias_limits;
  rx_power = lane_values memory limited at.rx_power None at.rx_power_limits;
}

-- limits stand on a page that flat memory doesn't have
abbrev pub qsfp_has_limits : Memory → Bool
qsfp_has_limits memory = not (bit memory (fields.Sff8636 sff8636.FlatMemory))

abbrev pub qsfp_monitors : Memory → ModuleMonitors
qsfp_monitors memory = record {
  temperature = module_value memory (qsfp_has_limits memory) (fields.Sff8636 sff8636.Temperature) (fields.Sff8636 sff8636.TempLimits);
  vcc = module_value memory (qsfp_has_limits memory) (fields.Sff8636 sff8636.Vcc) (fields.Sff8636 sff8636.VccLimits);
  tx_power = lane_values memory (qsfp_has_limits memory) (fields.Sff8636 sff8636.TxPower) None (fields.Sff8636 sff8636.TxPowerLimits);
  tx_bias = lane_values memory (qsfp_has_limits memory) (fields.Sff8636 sff8636.TxBias) None (fields.Sff8636 sff8636.TxBiasLimits);
  rx_power = lane_values memory (qsfp_has_limits memory) (fields.Sff8636 sff8636.RxPower) None (fields.Sff8636 sff8636.RxPowerLimits);
  family = family_number families.Sff8636;
  lanes = 4;
  has_limits = number_of (qsfp_has_limits memory);
  sum = 0;
}

abbrev pub sfp_monitors : Memory → ModuleMonitors
sfp_monitors memory = record {
  temperature = module_value memory true (fields.Sff8472 sff8472.Temperature) (fields.Sff8472 sff8472.TempLimits);
  vcc = module_value memory true (fields.Sff8472 sff8472.Vcc) (fields.Sff8472 sff8472.VccLimits);
  tx_power = lane_values memory true (fields.Sff8472 sff8472.TxPower) None (fields.Sff8472 sff8472.TxPowerLimits);
  tx_bias = lane_values memory true (fields.Sff8472 sff8472.TxBias) None (fields.Sff8472 sff8472.TxBiasLimits);
  rx_power = lane_values memory true (fields.Sff8472 sff8472.RxPower) None (fields.Sff8472 sff8472.RxPowerLimits);
  family = family_number families.Sff8472;
  lanes = 1;
  has_limits = 1;
  sum = number_of (is_sum_right memory (sums.Sff8472 sff8472_sums.SumDmi));
}

abbrev pub monitors_of : Family → Memory → ModuleMonitors
monitors_of families.Cmis memory = cmis_monitors memory
monitors_of families.Sff8636 memory = qsfp_monitors memory
monitors_of families.Sff8472 memory = sfp_monitors memory

-- by the family
unfoldable pub monitors_in : Memory → ModuleMonitors
monitors_in memory = monitors_of (family_of memory) memory
