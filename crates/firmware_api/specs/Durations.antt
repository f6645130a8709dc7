-- How long states of a module last at most, by what it advertises. (docs/firmware.md, "Pauses"; OIF-CMIS-05.0, "Durations
-- Advertising" of page 01h)
use Rattle.std.specs.Prelude.{ℕ, unwrap_or}
use Rattle.control_sets.specs.Durations.{longest_duration}
use Rattle.paged_memory.specs.Images.{Memory}
use Rattle.field_tables.specs.declared.field.Field.TheVariants as fields
use Rattle.field_tables.specs.declared.table.cmis.CmisField.TheVariants as cmis
use Rattle.field_tables.specs.Readings.{number}
use Rattle.firmware_api.specs.declared.durations.Durations.{Durations}

-- the end of the range that a code stands for, in milliseconds; 2^32 - 1 of a code without an upper end, or without a meaning
abbrev pub longest : ℕ → ℕ
longest code = unwrap_or (longest_duration code) 4294967295

abbrev pub durations_of : Memory → Durations
durations_of memory = record {
  module_power_up = longest (number memory (fields.Cmis cmis.MaxDurationModulePwrUp));
  module_power_down = longest (number memory (fields.Cmis cmis.MaxDurationModulePwrDn));
  path_init = longest (number memory (fields.Cmis cmis.MaxDurationDPInit));
  path_deinit = longest (number memory (fields.Cmis cmis.MaxDurationDPDeinit));
  path_tx_turn_on = longest (number memory (fields.Cmis cmis.MaxDurationDPTxTurnOn));
  path_tx_turn_off = longest (number memory (fields.Cmis cmis.MaxDurationDPTxTurnOff));
}
