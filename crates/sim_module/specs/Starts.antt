-- A module at the start, and why there is none. (docs/module.md, "The start"; this project's own)
use Rattle.std.specs.Prelude.{ℕ, ◌+◌, ◌-◌, ◌&&◌, Bool, false, not, Option, None, List, [], ◌∷◌, if◌then◌else◌, find, map, nat_le, option_map, unwrap_or}
use Rattle.std.specs.List.{list_all, range_with_len}
use Rattle.std.specs.Option.{option_or}
use Rattle.bus_model.specs.declared.device.Dev.TheVariants.{A0}
use Rattle.paged_memory.specs.declared.key.Key.{Key}
use Rattle.paged_memory.specs.Images.{Memory, byte_at}
use Rattle.paged_memory.specs.Keys.{lower_key, upper_key}
use Rattle.paged_memory.specs.MappedPages.{first_page}
use Rattle.field_tables.specs.FirstFault.{first_fault}
use Rattle.field_tables.specs.Halves.{is_absent}
use Rattle.field_tables.specs.LaneSets.{lanes_in}
use Rattle.field_tables.specs.declared.field.Register.{Register}
use Rattle.field_tables.specs.declared.field.Register.TheVariants as registers
use Rattle.field_tables.specs.Registers.{byte_count, first_byte, span_of}
use Rattle.control_sets.specs.OutcomeOperations.{control_page, status_page}
use Rattle.applications.specs.Refusals.{advert_fault}
use Rattle.module_states.specs.declared.state.ModuleState.{ModuleState}
use Rattle.module_states.specs.declared.state.ModuleState.TheVariants.{LowPwr, Ready}
use Rattle.datapath_states.specs.declared.state.PathState.TheVariants.{Deactivated}
use Rattle.datapath_states.specs.declared.status.ConfigStatus.TheVariants.{Undefined}
use Rattle.control_sets.specs.HostPaths.{wrong_lane}
use Rattle.sim_module.specs.declared.delays.Delays.{Delays}
use Rattle.sim_module.specs.declared.fault.SimFault.{SimFault}
use Rattle.sim_module.specs.declared.fault.SimFault.TheVariants.{Absent, Advert, BadDelay, ActiveNotPaths}
use Rattle.sim_module.specs.declared.lane.Lane.{Lane}
use Rattle.sim_module.specs.declared.module.SimModule.{SimModule}
use Rattle.sim_module.specs.Registers.{lane_flag_bytes}
use Rattle.sim_module.specs.Lanes.{all_lanes}
use Rattle.sim_module.specs.Down.{asks_low_power}
use Rattle.sim_module.specs.OwnAdverts.{own_advert}

-- a byte of a register in the module's memory, by its place from the first one
abbrev pub byte_of_register : Memory → Register → ℕ → ℕ
byte_of_register memory register index = unwrap_or (byte_at memory A0 (span_of register).page (first_byte register + index)) 0

-- a lane in no apply, its path deactivated
abbrev pub start_lane : Memory → ℕ → Lane
start_lane memory lane = record {
  path = Deactivated;
  ticks_left = 0;
  status = Undefined;
  staged = byte_of_register memory registers.StagedControl (lane - 1);
  active = byte_of_register memory registers.ActiveControl (lane - 1);
  applying = None;
}

-- in low power if the global controls ask for it without the pin
abbrev pub start_state : ℕ → ModuleState
start_state control = if asks_low_power control false then LowPwr else Ready

unfoldable pub start : Memory → Delays → SimModule
start memory delays = record {
  image = memory;
  advert = own_advert memory;
  delays = delays;
  selection = first_page;
  pin = false;
  control = byte_of_register memory registers.GlobalControls 0;
  state = start_state (byte_of_register memory registers.GlobalControls 0);
  ticks_left = 0;
  lanes = map (start_lane memory) all_lanes;
  deinit = lanes_in (byte_of_register memory registers.DPDeinit 0);
  apply_left = 0;
  module_flags = byte_of_register memory registers.ModuleFlags 0;
  lane_flags = map (byte_of_register memory registers.LaneFlags) (range_with_len 0 lane_flag_bytes);
}

-- the halves that a module needs
abbrev pub needed_halves : List Key
needed_halves = lower_key A0 ∷ upper_key A0 0 0x00 ∷ upper_key A0 0 0x01 ∷ upper_key A0 0 control_page ∷ upper_key A0 0 status_page ∷ []

-- the first of them that the memory lacks
abbrev pub absent_half : Memory → Option Key
absent_half memory = find (is_absent memory) needed_halves

abbrev pub is_delay : ℕ → Bool
is_delay delay = nat_le 1 delay && nat_le delay 1000

abbrev pub are_delays : Delays → Bool
are_delays delays =
    list_all is_delay (delays.apply ∷ delays.init ∷ delays.turn_on ∷ delays.turn_off ∷ delays.deinit ∷ delays.power_up ∷ delays.power_down ∷ [])

-- the active bytes of the image, lane 1 first
abbrev pub active_at_start : Memory → List ℕ
active_at_start memory = map (byte_of_register memory registers.ActiveControl) (range_with_len 0 (byte_count registers.ActiveControl))

abbrev pub delay_fault : Delays → Option SimFault
delay_fault delays = first_fault ((not (are_delays delays), BadDelay) ∷ [])

-- why an image with delays is no module, the first reason that applies: a half is absent, its Applications are not read, a
-- delay is out of range, or its active bytes are no host paths
abbrev pub start_fault : Memory → Delays → Option SimFault
start_fault memory delays =
    option_or (option_map Absent (absent_half memory))
    (option_or (option_map Advert (advert_fault memory))
    (option_or (delay_fault delays) (option_map ActiveNotPaths (wrong_lane (active_at_start memory)))))
