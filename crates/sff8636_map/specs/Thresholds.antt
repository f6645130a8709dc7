-- The limits of what a module measures. (docs/fields.md, "What is read of SFF modules"; SFF-8636, "Free Side Device
-- Thresholds" and "Channel Thresholds")
use Rattle.paged_memory.specs.Images.{Memory}
use Rattle.field_tables.specs.declared.field.Field.TheVariants as fields
use Rattle.field_tables.specs.declared.table.sff8636.Sff8636Field.TheVariants as sff8636
use Rattle.field_tables.specs.Readings.{LimitsAreWords, limits_of}
use Rattle.sff8636_map.specs.declared.thresholds.Thresholds.{Thresholds}

abbrev pub thresholds_of : Memory → Thresholds
thresholds_of memory = record {
  temperature = limits_of memory (fields.Sff8636 sff8636.TempLimits);
  vcc = limits_of memory (fields.Sff8636 sff8636.VccLimits);
  rx_power = limits_of memory (fields.Sff8636 sff8636.RxPowerLimits);
  tx_bias = limits_of memory (fields.Sff8636 sff8636.TxBiasLimits);
  tx_power = limits_of memory (fields.Sff8636 sff8636.TxPowerLimits);
}

-- limits of 16 bits
abbrev pub ThresholdsAreWords : Thresholds → Type 0
ThresholdsAreWords thresholds =
    LimitsAreWords thresholds.temperature
    × LimitsAreWords thresholds.vcc
    × LimitsAreWords thresholds.rx_power
    × LimitsAreWords thresholds.tx_bias
    × LimitsAreWords thresholds.tx_power
