-- What changes of a module as plain numbers, and what has them. (docs/module.md, "Saved modules"; this project's own)
use Rattle.std.specs.Prelude.{ℕ, ◌==◌, ◌&&◌, nat_le, Bool, true, false, map, Option, Some, None, is_some, option_map, unwrap_or, if◌then◌else◌}
use Rattle.std.specs.List.{list_all}
use Rattle.field_tables.specs.LaneSets.{byte_of, lanes_in}
use Rattle.module_states.specs.Codes as module_codes
use Rattle.module_states.specs.declared.state.ModuleState.{ModuleState}
use Rattle.datapath_states.specs.declared.state.PathState.{PathState}
use Rattle.datapath_states.specs.declared.status.ConfigStatus.{ConfigStatus}
use Rattle.datapath_states.specs.declared.status.ConfigStatus.TheVariants.{Custom}
use Rattle.datapath_states.specs.StateCodes.{code_of, state_at}
use Rattle.datapath_states.specs.StatusCodes.{status_at, status_code_of}
use Rattle.sim_module.specs.declared.lane.Lane.{Lane}
use Rattle.sim_module.specs.declared.moving.Moving.{Moving}
use Rattle.sim_module.specs.declared.saved.SavedLane.{SavedLane}
use Rattle.sim_module.specs.declared.saved.SavedModule.{SavedModule}
use Rattle.sim_module.specs.Lanes.{no_lane}

-- 1 for yes
abbrev pub number_of : Bool → ℕ
number_of true = 1
number_of false = 0

-- 1 for a status of a vendor's own
abbrev pub custom_of : ConfigStatus → ℕ
custom_of (Custom code) = 1
custom_of _ = 0

abbrev pub saved_lane : Lane → SavedLane
saved_lane lane = record {
  left = lane.ticks_left;
  path = code_of lane.path;
  status = status_code_of lane.status;
  custom = custom_of lane.status;
  staged = lane.staged;
  active = lane.active;
  keeps = number_of (is_some lane.applying);
  kept = unwrap_or lane.applying 0;
}

-- the numbers of what stands for a lane that there isn't
abbrev pub no_numbers : SavedLane
no_numbers = saved_lane no_lane

abbrev pub saved : Moving → SavedModule
saved moving = record {
  delays = moving.delays;
  left = moving.ticks_left;
  apply_left = moving.apply_left;
  bank = moving.selection.bank;
  page = moving.selection.page;
  waiting = moving.selection.waiting;
  pin = number_of moving.pin;
  control = moving.control;
  state = module_codes.code_of moving.state;
  deinit = byte_of moving.deinit;
  module_flags = moving.module_flags;
  lane_flags = moving.lane_flags;
  lanes = map saved_lane moving.lanes;
}

-- by `custom` one of the table, or a vendor's own
abbrev pub status_numbered : ℕ → ℕ → Option ConfigStatus
status_numbered custom code = if custom == 0 then status_at code else (if custom == 1 then Some (Custom code) else None)

-- by `keeps` no byte, which is 0 then, or this one
abbrev pub kept_numbered : ℕ → ℕ → Option (Option ℕ)
kept_numbered keeps kept = if keeps == 0 && kept == 0 then Some None else (if keeps == 1 then Some (Some kept) else None)

abbrev pub lane_with : SavedLane → Option PathState → Option ConfigStatus → Option (Option ℕ) → Option Lane
lane_with numbers (Some path) (Some status) (Some kept) = Some (record {
  path = path;
  ticks_left = numbers.left;
  status = status;
  staged = numbers.staged;
  active = numbers.active;
  applying = kept;
})
lane_with numbers path status kept = None

-- the lane that has these numbers; none if no state of a path, no status, or no kept byte has such numbers
abbrev pub lane_numbered : SavedLane → Option Lane
lane_numbered numbers =
    lane_with numbers (state_at numbers.path) (status_numbered numbers.custom numbers.status) (kept_numbered numbers.keeps numbers.kept)

abbrev pub is_lane : SavedLane → Bool
is_lane numbers = is_some (lane_numbered numbers)

abbrev pub lane_of : SavedLane → Lane
lane_of numbers = unwrap_or (lane_numbered numbers) no_lane

abbrev pub moving_with : SavedModule → ModuleState → Moving
moving_with numbers state = record {
  delays = numbers.delays;
  selection = record { bank = numbers.bank; page = numbers.page; waiting = numbers.waiting };
  pin = numbers.pin == 1;
  control = numbers.control;
  state = state;
  ticks_left = numbers.left;
  lanes = map lane_of numbers.lanes;
  deinit = lanes_in numbers.deinit;
  apply_left = numbers.apply_left;
  module_flags = numbers.module_flags;
  lane_flags = numbers.lane_flags;
}

-- what has these numbers; nothing if `pin` is neither 0 nor 1, if some lane has none, or if no state of a module has such a number
unfoldable pub restored : SavedModule → Option Moving
restored numbers =
    if nat_le numbers.pin 1 && list_all is_lane numbers.lanes then option_map (moving_with numbers) (module_codes.state_at numbers.state) else None
