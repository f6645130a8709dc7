-- What a module measures. (docs/fields.md, "What is read of SFF modules"; SFF-8472, "Real Time
-- Diagnostic and Control Registers")
use Rattle.std.specs.Prelude.{ℕ, All}
use Rattle.paged_memory.specs.Images.{Memory}
use Rattle.field_tables.specs.declared.field.Field.TheVariants as fields
use Rattle.field_tables.specs.declared.table.sff8472.Sff8472Field.TheVariants as sff8472
use Rattle.field_tables.specs.declared.field.Sum.TheVariants as sums
use Rattle.field_tables.specs.declared.field.Sff8472Sum.TheVariants as sff8472_sums
use Rattle.field_tables.specs.Readings.{all_readings, is_sum_right, reading, IsWord}
use Rattle.sff8472_map.specs.declared.monitors.Monitors.{Monitors}

abbrev pub monitors_of : {N : ℕ} → Memory → Monitors N
monitors_of memory = record {
  temperature = reading memory (fields.Sff8472 sff8472.Temperature);
  vcc = reading memory (fields.Sff8472 sff8472.Vcc);
  tx_bias = all_readings memory (fields.Sff8472 sff8472.TxBias);
  tx_power = all_readings memory (fields.Sff8472 sff8472.TxPower);
  rx_power = all_readings memory (fields.Sff8472 sff8472.RxPower);
  sum_dmi = is_sum_right memory (sums.Sff8472 sff8472_sums.SumDmi);
}

-- values of 16 bits
abbrev pub MonitorsAreWords : {N : ℕ} → Monitors N → Type 0
MonitorsAreWords monitors =
    IsWord monitors.temperature
    × IsWord monitors.vcc
    × All IsWord monitors.tx_bias
    × All IsWord monitors.tx_power
    × All IsWord monitors.rx_power
