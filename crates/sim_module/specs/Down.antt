-- Which lanes are to be deactivated, or kept so. (docs/module.md, "Down"; OIF-CMIS-05.0, section 6.3.3 Data Path State
-- Machine, the signals DPDeinitS and DPReDeinitS)
use Rattle.std.specs.Prelude.{ℕ, ◌==◌, ◌&&◌, ◌||◌, Bool, not}
use Rattle.std.specs.List.{list_any}
use Rattle.std.specs.FinSet as set
use Rattle.field_tables.specs.FieldValues.{is_set}
use Rattle.field_tables.specs.declared.field.Field.TheVariants as fields
use Rattle.field_tables.specs.declared.table.cmis.CmisField.TheVariants as cmis
use Rattle.module_states.specs.Codes.{code_of}
use Rattle.module_states.specs.LowPower.{is_low_power}
use Rattle.module_states.specs.declared.state.ModuleState.TheVariants.{Ready}
use Rattle.control_sets.specs.HostPaths.{agree, control_at, is_used}
use Rattle.sim_module.specs.declared.module.SimModule.{SimModule}
use Rattle.sim_module.specs.Lanes.{active_bytes, all_lanes, is_in_progress, lane_at}

-- by the byte of global controls and the pin
abbrev pub asks_low_power : ℕ → Bool → Bool
asks_low_power control pin = is_low_power (is_set (fields.Cmis cmis.LowPwrAllowHW) control) pin (is_set (fields.Cmis cmis.LowPwrRequestSW) control)

abbrev pub has_low_power : SimModule → Bool
has_low_power sim = asks_low_power sim.control sim.pin

-- ModuleReady
abbrev pub is_ready : SimModule → Bool
is_ready sim = code_of sim.state == code_of Ready

-- a lane that holds down its path: its DPDeinit bit is set, or an apply of it is in progress
abbrev pub holds_down : SimModule → ℕ → Bool
holds_down sim lane = set.contains sim.deinit lane || is_in_progress (lane_at sim lane)

-- some lane does
abbrev pub is_held : SimModule → Bool
is_held sim = list_any (holds_down sim) all_lanes

-- a lane of the lane's active path holds it down
abbrev pub is_path_down : SimModule → ℕ → Bool
is_path_down sim lane = list_any (λ other. agree (active_bytes sim) lane other && holds_down sim other) all_lanes

unfoldable pub is_down : SimModule → ℕ → Bool
is_down sim lane =
    not (is_used (control_at (active_bytes sim) lane))
    || is_path_down sim lane
    || not (is_ready sim)
    || has_low_power sim
