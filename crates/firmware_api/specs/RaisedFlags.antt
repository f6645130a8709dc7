-- The states of a module and the flags that it raises, as C sees them. (docs/firmware.md, "Decoders";
-- OIF-CMIS-05.0, "Module-Level Flags" of lower memory, of page 11h the data path states, the lane-specific flags and "Configuration
-- Command Status"; SFF-8636, "Interrupt Flags"; SFF-8472, "Alarm and Warning Flag Bits")
use Rattle.std.specs.Prelude.{ℕ, ◌+◌, if◌then◌else◌, List, [], ◌∷◌}
use Rattle.paged_memory.specs.declared.family.Family.{Family}
use Rattle.paged_memory.specs.declared.family.Family.TheVariants as families
use Rattle.paged_memory.specs.Images.{Memory}
use Rattle.field_tables.specs.declared.field.Field.{Field}
use Rattle.field_tables.specs.declared.field.Field.TheVariants as fields
use Rattle.field_tables.specs.declared.table.cmis.CmisField.TheVariants as cmis
use Rattle.field_tables.specs.declared.table.sff8636.Sff8636Field.TheVariants as sff8636
use Rattle.field_tables.specs.declared.table.sff8472.Sff8472Field.TheVariants as sff8472
use Rattle.field_tables.specs.Readings.{all_numbers, bit_at, number}
use Rattle.module_decoding.specs.CmisPages.{is_flat}
use Rattle.module_decoding.specs.ModuleFamilies.{family_of}
use Rattle.firmware_api.specs.declared.flags.ModuleFlags.{ModuleFlags}
use Rattle.firmware_api.specs.declared.flags.LevelFlags.{LevelFlags}
use Rattle.firmware_api.specs.Statuses.{family_number}

-- a bit of a byte of lanes
abbrev pub lane_bit : Memory → Field → ℕ → ℕ → ℕ
lane_bit memory field i weight = if bit_at memory field i then weight else 0

abbrev pub four_lanes : Memory → Field → ℕ
four_lanes memory field =
    lane_bit memory field 1 1 + lane_bit memory field 2 2 + lane_bit memory field 3 4 + lane_bit memory field 4 8

abbrev pub eight_lanes : Memory → Field → ℕ
eight_lanes memory field =
    four_lanes memory field
    + lane_bit memory field 5 16 + lane_bit memory field 6 32 + lane_bit memory field 7 64 + lane_bit memory field 8 128

-- what stands at the place of each limit
abbrev pub levels_at : {A : Type 0} → (A → ℕ) → A → A → A → A → LevelFlags
levels_at flag high_alarm low_alarm high_warning low_warning = record {
  high_alarm = flag high_alarm;
  low_alarm = flag low_alarm;
  high_warning = flag high_warning;
  low_warning = flag low_warning;
}

-- of the module itself: four flags of a field from the first on
abbrev pub past_limits : Memory → Field → ℕ → LevelFlags
past_limits memory field first = levels_at (λ place. lane_bit memory field place 1) first (first + 1) (first + 2) (first + 3)

-- of the module, or of its one lane: two flags of a field of alarms and of one of warnings, from the first on
abbrev pub past_pairs : Memory → Field → Field → ℕ → LevelFlags
past_pairs memory alarms warnings first =
    levels_at (λ (place : Field × ℕ). lane_bit memory place.0 place.1 1) (alarms, first) (alarms, first + 1) (warnings, first) (warnings, first + 1)

abbrev pub no_levels : LevelFlags
no_levels = record { high_alarm = 0; low_alarm = 0; high_warning = 0; low_warning = 0 }

abbrev pub no_codes : List ℕ
no_codes = 0 ∷ 0 ∷ 0 ∷ 0 ∷ 0 ∷ 0 ∷ 0 ∷ 0 ∷ []

-- what a module doesn't tell is 0
abbrev pub no_flags : ModuleFlags
no_flags = record {
  family = 0;
  lanes = 0;
  state = 0;
  path_states = no_codes;
  statuses = no_codes;
  path_state_changed = 0;
  tx_fault = 0;
  tx_los = 0;
  tx_lol = 0;
  tx_eq_fail = 0;
  rx_los = 0;
  rx_lol = 0;
  temperature = no_levels;
  vcc = no_levels;
  tx_power = no_levels;
  tx_bias = no_levels;
  rx_power = no_levels;
}

-- with flat memory it tells nothing of its lanes
abbrev pub flat_flags : Memory → ModuleFlags
flat_flags memory = record no_flags {
  family = family_number families.Cmis;
  state = number memory (fields.Cmis cmis.ModuleState);
  temperature = past_limits memory (fields.Cmis cmis.ModuleFlag) 1;
  vcc = past_limits memory (fields.Cmis cmis.ModuleFlag) 5;
}

abbrev pub paged_flags : Memory → ModuleFlags
paged_flags memory = record (flat_flags memory) {
  lanes = 8;
  path_states = all_numbers memory (fields.Cmis cmis.PathStates);
  statuses = all_numbers memory (fields.Cmis cmis.ConfigStatus);
  path_state_changed = eight_lanes memory (fields.Cmis cmis.PathStateChanged);
  tx_fault = eight_lanes memory (fields.Cmis cmis.TxFailure);
  tx_los = eight_lanes memory (fields.Cmis cmis.TxLos);
  tx_lol = eight_lanes memory (fields.Cmis cmis.TxLol);
  tx_eq_fail = eight_lanes memory (fields.Cmis cmis.TxEqFail);
  rx_los = eight_lanes memory (fields.Cmis cmis.RxLos);
  rx_lol = eight_lanes memory (fields.Cmis cmis.RxLol);
  tx_power = levels_at (eight_lanes memory) (fields.Cmis cmis.TxPowerHighAlarm) (fields.Cmis cmis.TxPowerLowAlarm) (fields.Cmis cmis.TxPowerHighWarning) (fields.Cmis cmis.TxPowerLowWarning);
  tx_bias = levels_at (eight_lanes memory) (fields.Cmis cmis.TxBiasHighAlarm) (fields.Cmis cmis.TxBiasLowAlarm) (fields.Cmis cmis.TxBiasHighWarning) (fields.Cmis cmis.TxBiasLowWarning);
  rx_power = levels_at (eight_lanes memory) (fields.Cmis cmis.RxPowerHighAlarm) (fields.Cmis cmis.RxPowerLowAlarm) (fields.Cmis cmis.RxPowerHighWarning) (fields.Cmis cmis.RxPowerLowWarning);
}

abbrev pub qsfp_flags : Memory → ModuleFlags
qsfp_flags memory = record no_flags {
  family = family_number families.Sff8636;
  lanes = 4;
  tx_fault = four_lanes memory (fields.Sff8636 sff8636.TxFault);
  tx_los = four_lanes memory (fields.Sff8636 sff8636.TxLos);
  tx_lol = four_lanes memory (fields.Sff8636 sff8636.TxLol);
  rx_los = four_lanes memory (fields.Sff8636 sff8636.RxLos);
  rx_lol = four_lanes memory (fields.Sff8636 sff8636.RxLol);
  temperature = past_limits memory (fields.Sff8636 sff8636.TempFlag) 1;
  vcc = past_limits memory (fields.Sff8636 sff8636.VccFlag) 1;
  tx_power = levels_at (four_lanes memory) (fields.Sff8636 sff8636.TxPowerHighAlarm) (fields.Sff8636 sff8636.TxPowerLowAlarm) (fields.Sff8636 sff8636.TxPowerHighWarning) (fields.Sff8636 sff8636.TxPowerLowWarning);
  tx_bias = levels_at (four_lanes memory) (fields.Sff8636 sff8636.TxBiasHighAlarm) (fields.Sff8636 sff8636.TxBiasLowAlarm) (fields.Sff8636 sff8636.TxBiasHighWarning) (fields.Sff8636 sff8636.TxBiasLowWarning);
  rx_power = levels_at (four_lanes memory) (fields.Sff8636 sff8636.RxPowerHighAlarm) (fields.Sff8636 sff8636.RxPowerLowAlarm) (fields.Sff8636 sff8636.RxPowerHighWarning) (fields.Sff8636 sff8636.RxPowerLowWarning);
}

abbrev pub sfp_flags : Memory → ModuleFlags
sfp_flags memory = record no_flags {
  family = family_number families.Sff8472;
  lanes = 1;
  tx_fault = lane_bit memory (fields.Sff8472 sff8472.TxFault) 1 1;
  rx_los = lane_bit memory (fields.Sff8472 sff8472.RxLos) 1 1;
  temperature = past_pairs memory (fields.Sff8472 sff8472.Alarms) (fields.Sff8472 sff8472.Warnings) 1;
  vcc = past_pairs memory (fields.Sff8472 sff8472.Alarms) (fields.Sff8472 sff8472.Warnings) 3;
  tx_power = past_pairs memory (fields.Sff8472 sff8472.Alarms) (fields.Sff8472 sff8472.Warnings) 7;
  tx_bias = past_pairs memory (fields.Sff8472 sff8472.Alarms) (fields.Sff8472 sff8472.Warnings) 5;
  rx_power = past_pairs memory (fields.Sff8472 sff8472.RxAlarms) (fields.Sff8472 sff8472.RxWarnings) 1;
}

unfoldable pub cmis_flags : Memory → ModuleFlags
cmis_flags memory = if is_flat memory then flat_flags memory else paged_flags memory

abbrev pub flags_of : Family → Memory → ModuleFlags
flags_of families.Cmis memory = cmis_flags memory
flags_of families.Sff8636 memory = qsfp_flags memory
flags_of families.Sff8472 memory = sfp_flags memory

-- by the family
unfoldable pub flags_in : Memory → ModuleFlags
flags_in memory = flags_of (family_of memory) memory
