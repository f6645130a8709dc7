-- The limits of what a module measures. (docs/fields.md, "What is read of SFF modules"; SFF-8472, "Alarm and Warning
-- Thresholds")
use Rattle.paged_memory.specs.Images.{Memory}
use Rattle.field_tables.specs.declared.field.Field.TheVariants as fields
use Rattle.field_tables.specs.declared.table.sff8472.Sff8472Field.TheVariants as sff8472
use Rattle.field_tables.specs.Readings.{LimitsAreWords, limits_of}
use Rattle.sff8472_map.specs.declared.thresholds.Thresholds.{Thresholds}

abbrev pub thresholds_of : Memory → Thresholds
thresholds_of memory = record {
  temperature = limits_of memory (fields.Sff8472 sff8472.TempLimits);
  vcc = limits_of memory (fields.Sff8472 sff8472.VccLimits);
  tx_bias = limits_of memory (fields.Sff8472 sff8472.TxBiasLimits);
  tx_power = limits_of memory (fields.Sff8472 sff8472.TxPowerLimits);
  rx_power = limits_of memory (fields.Sff8472 sff8472.RxPowerLimits);
}

-- limits of 16 bits
abbrev pub ThresholdsAreWords : Thresholds → Type 0
ThresholdsAreWords thresholds =
    LimitsAreWords thresholds.temperature
    × LimitsAreWords thresholds.vcc
    × LimitsAreWords thresholds.tx_bias
    × LimitsAreWords thresholds.tx_power
    × LimitsAreWords thresholds.rx_power
