-- What a module warns of. (docs/fields.md, "What is read of SFF modules"; SFF-8636, "Interrupt Flags")
use Rattle.std.specs.Prelude.{Bool, List}
use Rattle.paged_memory.specs.Images.{Memory}
use Rattle.field_tables.specs.declared.field.Field.TheVariants as fields
use Rattle.field_tables.specs.declared.table.sff8636.Sff8636Field.TheVariants as sff8636
use Rattle.field_tables.specs.declared.readings.PerLimit.{PerLimit}
use Rattle.field_tables.specs.Readings.{all_bits, limit_bits}
use Rattle.sff8636_map.specs.declared.flags.Flags.{Flags}

abbrev pub rx_power_flags : Memory → PerLimit (List Bool)
rx_power_flags memory = record {
  high_alarm = all_bits memory (fields.Sff8636 sff8636.RxPowerHighAlarm);
  low_alarm = all_bits memory (fields.Sff8636 sff8636.RxPowerLowAlarm);
  high_warning = all_bits memory (fields.Sff8636 sff8636.RxPowerHighWarning);
  low_warning = all_bits memory (fields.Sff8636 sff8636.RxPowerLowWarning);
}

abbrev pub tx_bias_flags : Memory → PerLimit (List Bool)
tx_bias_flags memory = record {
  high_alarm = all_bits memory (fields.Sff8636 sff8636.TxBiasHighAlarm);
  low_alarm = all_bits memory (fields.Sff8636 sff8636.TxBiasLowAlarm);
  high_warning = all_bits memory (fields.Sff8636 sff8636.TxBiasHighWarning);
  low_warning = all_bits memory (fields.Sff8636 sff8636.TxBiasLowWarning);
}

abbrev pub tx_power_flags : Memory → PerLimit (List Bool)
tx_power_flags memory = record {
  high_alarm = all_bits memory (fields.Sff8636 sff8636.TxPowerHighAlarm);
  low_alarm = all_bits memory (fields.Sff8636 sff8636.TxPowerLowAlarm);
  high_warning = all_bits memory (fields.Sff8636 sff8636.TxPowerHighWarning);
  low_warning = all_bits memory (fields.Sff8636 sff8636.TxPowerLowWarning);
}

abbrev pub flags_of : Memory → Flags
flags_of memory = record {
  temperature = limit_bits memory (fields.Sff8636 sff8636.TempFlag);
  vcc = limit_bits memory (fields.Sff8636 sff8636.VccFlag);
  tx_los = all_bits memory (fields.Sff8636 sff8636.TxLos);
  rx_los = all_bits memory (fields.Sff8636 sff8636.RxLos);
  tx_fault = all_bits memory (fields.Sff8636 sff8636.TxFault);
  tx_lol = all_bits memory (fields.Sff8636 sff8636.TxLol);
  rx_lol = all_bits memory (fields.Sff8636 sff8636.RxLol);
  rx_power = rx_power_flags memory;
  tx_bias = tx_bias_flags memory;
  tx_power = tx_power_flags memory;
}
