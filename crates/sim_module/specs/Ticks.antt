-- What one tick makes of a module. (docs/module.md, "Ticks"; OIF-CMIS-05.0, sections 6.3.2 Module State Machine and 6.3.3
-- Data Path State Machine)
use Rattle.std.specs.Prelude.{ℕ, ◌-◌, ◌==◌, ◌&&◌, Bool, true, false, not, Option, Some, None, if◌then◌else◌, List, map, slice_index, slice_set, bit_or}
use Rattle.std.specs.List.{list_all}
use Rattle.std.specs.FinSet as set
use Rattle.field_tables.specs.LaneSets.{Lanes, byte_of, every_lane}
use Rattle.module_states.specs.declared.state.ModuleState.{ModuleState}
use Rattle.module_states.specs.declared.state.ModuleState.TheVariants as module_is
use Rattle.module_states.specs.Codes as module_codes
use Rattle.module_states.specs.Transitions as module_table
use Rattle.datapath_states.specs.declared.state.PathState.{PathState}
use Rattle.datapath_states.specs.declared.state.PathState.TheVariants as path_is
use Rattle.datapath_states.specs.declared.status.ConfigStatus.TheVariants.{Success}
use Rattle.datapath_states.specs.Transitions as path_table
use Rattle.sim_module.specs.declared.delays.Delays.{Delays}
use Rattle.sim_module.specs.declared.lane.Lane.{Lane}
use Rattle.sim_module.specs.declared.module.SimModule.{SimModule}
use Rattle.sim_module.specs.Lanes.{all_lanes, is_deactivated, is_path_state, lane_at}
use Rattle.sim_module.specs.Down.{has_low_power, is_down}

-- a counter that runs comes to 0 at this tick
abbrev pub is_last : ℕ → Bool
is_last left = left == 1

-- how long a state that was just entered lasts; a steady one has no end of its own
abbrev pub path_delay : Delays → PathState → ℕ
path_delay delays path_is.Init = delays.init
path_delay delays path_is.TxTurnOn = delays.turn_on
path_delay delays path_is.TxTurnOff = delays.turn_off
path_delay delays path_is.Deinit = delays.deinit
path_delay delays _ = 0

abbrev pub module_delay : Delays → ModuleState → ℕ
module_delay delays module_is.PwrUp = delays.power_up
module_delay delays module_is.PwrDn = delays.power_down
module_delay delays _ = 0

abbrev pub is_module_state : ModuleState → ModuleState → Bool
is_module_state state other = module_codes.code_of state == module_codes.code_of other

abbrev pub all_deactivated : SimModule → Bool
all_deactivated sim = list_all (is_deactivated sim) all_lanes

abbrev pub next_module_state : SimModule → ModuleState
next_module_state sim =
    module_table.next_of sim.state (record { low_power = has_low_power sim; deactivated = all_deactivated sim; done = is_last sim.ticks_left })

abbrev pub next_path_state : SimModule → ℕ → PathState
next_path_state sim lane =
    path_table.next_of (lane_at sim lane).path (record { down = is_down sim lane; done = is_last (lane_at sim lane).ticks_left })

-- a counter goes on, or begins if a state was entered
abbrev pub next_left : Bool → ℕ → ℕ → ℕ
next_left stays left delay = if stays then left - 1 else delay

-- the lane with its next state
abbrev pub moved_lane : Delays → Lane → PathState → Lane
moved_lane delays lane path = record lane { path = path; ticks_left = next_left (is_path_state path lane.path) lane.ticks_left (path_delay delays path) }

-- an apply that is done makes the byte that it kept active
abbrev pub applied_by : Option ℕ → Lane → Lane
applied_by (Some byte) lane = record lane { active = byte; status = Success; applying = None }
applied_by None lane = lane

abbrev pub applied_lane : Lane → Lane
applied_lane lane = applied_by lane.applying lane

unfoldable pub ticked_lane : SimModule → ℕ → Lane
ticked_lane sim lane =
    let moved = moved_lane sim.delays (lane_at sim lane) (next_path_state sim lane) in
    if is_last sim.apply_left then applied_lane moved else moved

-- the states that last until the lane is told to leave them
abbrev pub is_steady : PathState → Bool
is_steady path_is.Deactivated = true
is_steady path_is.Initialized = true
is_steady path_is.Activated = true
is_steady _ = false

-- the lane enters such a state, which raises its flag
unfoldable pub arrives : SimModule → ℕ → Bool
arrives sim lane = not (is_path_state (next_path_state sim lane) (lane_at sim lane).path) && is_steady (next_path_state sim lane)

abbrev pub arriving : SimModule → Lanes
arriving sim = set.retain every_lane (arrives sim)

-- the flags of changed path states are the first byte of the lane flags
abbrev pub ticked_flags : SimModule → List ℕ
ticked_flags sim = slice_set sim.lane_flags 0 (bit_or (slice_index sim.lane_flags 0) (byte_of (arriving sim)))

-- everything from the values before the tick
unfoldable pub ticked : SimModule → SimModule
ticked sim = record sim {
  state = next_module_state sim;
  ticks_left = next_left (is_module_state (next_module_state sim) sim.state) sim.ticks_left (module_delay sim.delays (next_module_state sim));
  lanes = map (ticked_lane sim) all_lanes;
  apply_left = sim.apply_left - 1;
  lane_flags = ticked_flags sim;
}

-- the pin is held or left
abbrev pub pinned : SimModule → Bool → SimModule
pinned sim on = record sim { pin = on }
