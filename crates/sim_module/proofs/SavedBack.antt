-- What was saved of a module is what its numbers stand for.
use Rattle.std.proofs.Common.{◌≡◌, ℕ, Bool, true, false, List, [], ◌∷◌, Option, Some, None, map, refl, ap}
use Rattle.std.specs.Prelude.{◌==◌, nat_le, is_some, unwrap_or}
use Rattle.std.specs.List.{list_all}
use Rattle.field_tables.specs.LaneSets.{byte_of, lanes_in}
use Rattle.module_states.specs.Codes as module_codes
use Rattle.module_states.specs.declared.state.ModuleState.{ModuleState}
use Rattle.module_states.specs.declared.state.ModuleState.TheVariants as module_is
use Rattle.datapath_states.specs.declared.state.PathState.{PathState}
use Rattle.datapath_states.specs.declared.state.PathState.TheVariants as path_is
use Rattle.datapath_states.specs.declared.status.ConfigStatus.{ConfigStatus}
use Rattle.datapath_states.specs.declared.status.ConfigStatus.TheVariants as status_is
use Rattle.datapath_states.specs.StateCodes.{code_of, state_at}
use Rattle.datapath_states.specs.StatusCodes.{status_code_of}
use Rattle.sim_module.specs.declared.lane.Lane.{Lane}
use Rattle.sim_module.specs.declared.moving.Moving.{Moving}
use Rattle.sim_module.specs.declared.saved.SavedModule.{SavedModule}
use Rattle.sim_module.specs.SavedModules.{custom_of, is_lane, kept_numbered, lane_numbered, lane_of, moving_with, number_of, restored, saved, saved_lane, status_numbered}

pub path_back : (state : PathState) → state_at (code_of state) ≡ Some state
path_back path_is.Deactivated = refl
path_back path_is.Init = refl
path_back path_is.Deinit = refl
path_back path_is.Activated = refl
path_back path_is.TxTurnOn = refl
path_back path_is.TxTurnOff = refl
path_back path_is.Initialized = refl

status_back : (status : ConfigStatus) → status_numbered (custom_of status) (status_code_of status) ≡ Some status
status_back status_is.Undefined = refl
status_back status_is.Success = refl
status_back status_is.Rejected = refl
status_back status_is.RejectedInvalidAppSel = refl
status_back status_is.RejectedInvalidDataPath = refl
status_back status_is.RejectedInvalidSi = refl
status_back status_is.RejectedLanesInUse = refl
status_back status_is.RejectedPartialDataPath = refl
status_back status_is.InProgress = refl
status_back (status_is.Custom code) = refl

pub state_back : (state : ModuleState) → module_codes.state_at (module_codes.code_of state) ≡ Some state
state_back module_is.LowPwr = refl
state_back module_is.PwrUp = refl
state_back module_is.Ready = refl
state_back module_is.PwrDn = refl
state_back module_is.Fault = refl

kept_back : (kept : Option ℕ) → kept_numbered (number_of (is_some kept)) (unwrap_or kept 0) ≡ Some kept
kept_back None = refl
kept_back (Some byte) = refl

pin_back : (pin : Bool) → (number_of pin == 1) ≡ pin
pin_back true = refl
pin_back false = refl

pin_is_number : (pin : Bool) → nat_le (number_of pin) 1 ≡ true
pin_is_number true = refl
pin_is_number false = refl

lane_back : (lane : Lane) → lane_numbered (saved_lane lane) ≡ Some lane
lane_back lane = rw (path_back lane.path, status_back lane.status, kept_back lane.applying) refl

are_lanes : (lanes : List Lane) → list_all is_lane (map saved_lane lanes) ≡ true
are_lanes [] = refl
are_lanes (lane ∷ lanes) = rw (lane_back lane) (are_lanes lanes)

lanes_back : (lanes : List Lane) → map lane_of (map saved_lane lanes) ≡ lanes
lanes_back [] = refl
lanes_back (lane ∷ lanes) = rw (lane_back lane) (ap (λ (rest : List Lane). lane ∷ rest) (lanes_back lanes))

pub moving_back : (moving : Moving) (numbers : SavedModule) → numbers ≡ saved moving → lanes_in (byte_of moving.deinit) ≡ moving.deinit → restored numbers ≡ Some moving
unfolding restored
moving_back moving numbers is deinit = rw is (rw (pin_is_number moving.pin, are_lanes moving.lanes, state_back moving.state, lanes_back moving.lanes, pin_back moving.pin, deinit) refl)

pub moving_restored : (numbers : SavedModule) (state : ModuleState) → nat_le numbers.pin 1 ≡ true → list_all is_lane numbers.lanes ≡ true →
    module_codes.state_at numbers.state ≡ Some state → restored numbers ≡ Some (moving_with numbers state)
unfolding restored
moving_restored numbers state pin all is = rw (pin, all, is) refl
