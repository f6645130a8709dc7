-- The states of a CMIS module and of its lanes, and the flags that a module raises. (docs/formats.md, "flags"; OIF-CMIS-05.0, "Global
-- Status Information" and "Module-Level Flags" of lower memory; of page 11h the data path states, the lane-specific flags and
-- "Configuration Command Status"; SFF-8636, "Interrupt Flags"; SFF-8472, "Alarm and Warning Flag Bits")
use Rattle.std.specs.Prelude.{List, [], ◌∷◌, ◌++◌, codes, ℕ, ◌+◌}
use Rattle.field_tables.specs.declared.field.Field.TheVariants as fields
use Rattle.field_tables.specs.declared.table.cmis.CmisField.TheVariants as cmis
use Rattle.field_tables.specs.declared.table.sff8636.Sff8636Field.TheVariants as sff8636
use Rattle.field_tables.specs.declared.table.sff8472.Sff8472Field.TheVariants as sff8472
use Rattle.report_entries.specs.declared.flag.Condition.TheVariants as conditions
use Rattle.report_entries.specs.declared.flag.FlagName.TheVariants.{Holds, Passed}
use Rattle.report_entries.specs.declared.flag.LimitKind.TheVariants.{HighAlarm, LowAlarm, HighWarning, LowWarning}
use Rattle.report_entries.specs.declared.flag_rows.FlagRow.{FlagRow}
use Rattle.report_entries.specs.declared.quantity.Quantity.TheVariants.{Temperature, Vcc, TxPower, TxBias, RxPower}
use Rattle.report_entries.specs.FlagRows.{of_paged_lanes, past_limits, of_lanes, of_module, of_one_lane}
use Rattle.report_entries.specs.Rows.{Row, LaneStates, State, always, if_paged}
use Rattle.report_entries.specs.declared.flag.FlagName.{FlagName}
use Rattle.report_entries.specs.declared.quantity.Quantity.{Quantity}
use Rattle.field_tables.specs.declared.field.Field.{Field}

-- a module with flat memory tells nothing of its lanes
unfoldable pub state_rows : List Row
state_rows =
    always (codes "state") (State (fields.Cmis cmis.ModuleState))
    ∷ if_paged (codes "lane") (LaneStates (fields.Cmis cmis.PathStates) (fields.Cmis cmis.ConfigStatus)) []
    ∷ []

-- of the lanes: a field for each limit
abbrev of_limits : (FlagName → Field → FlagRow) → Quantity → Field → Field → Field → Field → List FlagRow
of_limits of quantity high_alarm low_alarm high_warning low_warning =
    of (Passed quantity HighAlarm) high_alarm
    ∷ of (Passed quantity LowAlarm) low_alarm
    ∷ of (Passed quantity HighWarning) high_warning
    ∷ of (Passed quantity LowWarning) low_warning
    ∷ []

abbrev cmis_lane_rows : List FlagRow
cmis_lane_rows =
    of_paged_lanes (Holds conditions.PathStateChanged) (fields.Cmis cmis.PathStateChanged)
    ∷ of_paged_lanes (Holds conditions.TxFailure) (fields.Cmis cmis.TxFailure)
    ∷ of_paged_lanes (Holds conditions.TxLos) (fields.Cmis cmis.TxLos)
    ∷ of_paged_lanes (Holds conditions.TxLol) (fields.Cmis cmis.TxLol)
    ∷ of_paged_lanes (Holds conditions.TxEqFail) (fields.Cmis cmis.TxEqFail)
    ∷ (of_limits of_paged_lanes TxPower (fields.Cmis cmis.TxPowerHighAlarm) (fields.Cmis cmis.TxPowerLowAlarm) (fields.Cmis cmis.TxPowerHighWarning) (fields.Cmis cmis.TxPowerLowWarning)
    ++ (of_limits of_paged_lanes TxBias (fields.Cmis cmis.TxBiasHighAlarm) (fields.Cmis cmis.TxBiasLowAlarm) (fields.Cmis cmis.TxBiasHighWarning) (fields.Cmis cmis.TxBiasLowWarning)
    ++ of_paged_lanes (Holds conditions.RxLos) (fields.Cmis cmis.RxLos)
    ∷ of_paged_lanes (Holds conditions.RxLol) (fields.Cmis cmis.RxLol)
    ∷ of_limits of_paged_lanes RxPower (fields.Cmis cmis.RxPowerHighAlarm) (fields.Cmis cmis.RxPowerLowAlarm) (fields.Cmis cmis.RxPowerHighWarning) (fields.Cmis cmis.RxPowerLowWarning)))

-- those of the module stand first
unfoldable pub cmis_rows : List FlagRow
cmis_rows = past_limits Temperature (fields.Cmis cmis.ModuleFlag) 1 ++ (past_limits Vcc (fields.Cmis cmis.ModuleFlag) 5 ++ cmis_lane_rows)

abbrev qsfp_lane_rows : List FlagRow
qsfp_lane_rows =
    of_lanes (Holds conditions.TxLos) (fields.Sff8636 sff8636.TxLos)
    ∷ of_lanes (Holds conditions.RxLos) (fields.Sff8636 sff8636.RxLos)
    ∷ of_lanes (Holds conditions.TxFault) (fields.Sff8636 sff8636.TxFault)
    ∷ of_lanes (Holds conditions.TxLol) (fields.Sff8636 sff8636.TxLol)
    ∷ of_lanes (Holds conditions.RxLol) (fields.Sff8636 sff8636.RxLol)
    ∷ (of_limits of_lanes RxPower (fields.Sff8636 sff8636.RxPowerHighAlarm) (fields.Sff8636 sff8636.RxPowerLowAlarm) (fields.Sff8636 sff8636.RxPowerHighWarning) (fields.Sff8636 sff8636.RxPowerLowWarning)
    ++ (of_limits of_lanes TxBias (fields.Sff8636 sff8636.TxBiasHighAlarm) (fields.Sff8636 sff8636.TxBiasLowAlarm) (fields.Sff8636 sff8636.TxBiasHighWarning) (fields.Sff8636 sff8636.TxBiasLowWarning)
    ++ of_limits of_lanes TxPower (fields.Sff8636 sff8636.TxPowerHighAlarm) (fields.Sff8636 sff8636.TxPowerLowAlarm) (fields.Sff8636 sff8636.TxPowerHighWarning) (fields.Sff8636 sff8636.TxPowerLowWarning)))

unfoldable pub qsfp_rows : List FlagRow
qsfp_rows = past_limits Temperature (fields.Sff8636 sff8636.TempFlag) 1 ++ (past_limits Vcc (fields.Sff8636 sff8636.VccFlag) 1 ++ qsfp_lane_rows)

-- of a value: two alarms, then two warnings, which stand in the same bits of another field
abbrev of_value : (FlagName → Field → ℕ → FlagRow) → Quantity → Field → Field → ℕ → List FlagRow
of_value of quantity alarms warnings first =
    of (Passed quantity HighAlarm) alarms first
    ∷ of (Passed quantity LowAlarm) alarms (first + 1)
    ∷ of (Passed quantity HighWarning) warnings first
    ∷ of (Passed quantity LowWarning) warnings (first + 1)
    ∷ []

abbrev sfp_signal_rows : List FlagRow
sfp_signal_rows =
    of_one_lane (Holds conditions.TxFault) (fields.Sff8472 sff8472.TxFault) 1
    ∷ of_one_lane (Holds conditions.RxLos) (fields.Sff8472 sff8472.RxLos) 1
    ∷ []

unfoldable pub sfp_rows : List FlagRow
sfp_rows =
    of_value of_module Temperature (fields.Sff8472 sff8472.Alarms) (fields.Sff8472 sff8472.Warnings) 1
    ++ (of_value of_module Vcc (fields.Sff8472 sff8472.Alarms) (fields.Sff8472 sff8472.Warnings) 3
    ++ (of_value of_one_lane TxBias (fields.Sff8472 sff8472.Alarms) (fields.Sff8472 sff8472.Warnings) 5
    ++ (of_value of_one_lane TxPower (fields.Sff8472 sff8472.Alarms) (fields.Sff8472 sff8472.Warnings) 7
    ++ (of_value of_one_lane RxPower (fields.Sff8472 sff8472.RxAlarms) (fields.Sff8472 sff8472.RxWarnings) 1
    ++ sfp_signal_rows))))
