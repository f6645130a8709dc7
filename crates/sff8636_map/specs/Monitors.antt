-- What a module measures. (docs/fields.md, "What is read of SFF modules"; SFF-8636, "Free Side Device Monitors" and
-- "Channel Monitors")
use Rattle.std.specs.Prelude.{ℕ, All}
use Rattle.paged_memory.specs.Images.{Memory}
use Rattle.field_tables.specs.declared.field.Field.TheVariants as fields
use Rattle.field_tables.specs.declared.table.sff8636.Sff8636Field.TheVariants as sff8636
use Rattle.field_tables.specs.Readings.{all_readings, reading, IsWord}
use Rattle.sff8636_map.specs.declared.monitors.Monitors.{Monitors}

abbrev pub monitors_of : {N : ℕ} → Memory → Monitors N
monitors_of memory = record {
  temperature = reading memory (fields.Sff8636 sff8636.Temperature);
  vcc = reading memory (fields.Sff8636 sff8636.Vcc);
  rx_power = all_readings memory (fields.Sff8636 sff8636.RxPower);
  tx_bias = all_readings memory (fields.Sff8636 sff8636.TxBias);
  tx_power = all_readings memory (fields.Sff8636 sff8636.TxPower);
}

-- values of 16 bits
abbrev pub MonitorsAreWords : {N : ℕ} → Monitors N → Type 0
MonitorsAreWords monitors =
    IsWord monitors.temperature
    × IsWord monitors.vcc
    × All IsWord monitors.rx_power
    × All IsWord monitors.tx_bias
    × All IsWord monitors.tx_power
