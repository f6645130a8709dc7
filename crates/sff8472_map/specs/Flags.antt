-- What a module warns of. (docs/fields.md, "What is read of SFF modules"; SFF-8472, "Alarm and Warning Flag Bits" and
-- "Real Time Diagnostic and Control Registers")
use Rattle.std.specs.Prelude.{ℕ, ◌+◌, Bool}
use Rattle.paged_memory.specs.Images.{Memory}
use Rattle.field_tables.specs.declared.field.Field.{Field}
use Rattle.field_tables.specs.declared.field.Field.TheVariants as fields
use Rattle.field_tables.specs.declared.table.sff8472.Sff8472Field.TheVariants as sff8472
use Rattle.field_tables.specs.declared.readings.PerLimit.{PerLimit}
use Rattle.field_tables.specs.Readings.{bit, bit_at}
use Rattle.sff8472_map.specs.declared.flags.Flags.{Flags}

-- of a monitored value: its high alarm and its high warning have this number in their fields, its low ones the next
abbrev pub limit_flags : Memory → Field → Field → ℕ → PerLimit Bool
limit_flags memory alarms warnings high = record {
  high_alarm = bit_at memory alarms high;
  low_alarm = bit_at memory alarms (high + 1);
  high_warning = bit_at memory warnings high;
  low_warning = bit_at memory warnings (high + 1);
}

abbrev pub flags_of : Memory → Flags
flags_of memory = record {
  temperature = limit_flags memory (fields.Sff8472 sff8472.Alarms) (fields.Sff8472 sff8472.Warnings) 1;
  vcc = limit_flags memory (fields.Sff8472 sff8472.Alarms) (fields.Sff8472 sff8472.Warnings) 3;
  tx_bias = limit_flags memory (fields.Sff8472 sff8472.Alarms) (fields.Sff8472 sff8472.Warnings) 5;
  tx_power = limit_flags memory (fields.Sff8472 sff8472.Alarms) (fields.Sff8472 sff8472.Warnings) 7;
  rx_power = limit_flags memory (fields.Sff8472 sff8472.RxAlarms) (fields.Sff8472 sff8472.RxWarnings) 1;
  tx_fault = bit memory (fields.Sff8472 sff8472.TxFault);
  rx_los = bit memory (fields.Sff8472 sff8472.RxLos);
}
