-- The lanes of a module, by number. (docs/module.md, "The record"; this project's own)
use Rattle.std.specs.Prelude.{ℕ, ◌-◌, ◌==◌, Bool, List, None, get_or, map}
use Rattle.std.specs.List.{range_with_len}
use Rattle.datapath_states.specs.declared.state.PathState.{PathState}
use Rattle.datapath_states.specs.declared.state.PathState.TheVariants.{Deactivated}
use Rattle.datapath_states.specs.declared.status.ConfigStatus.TheVariants.{Undefined, InProgress}
use Rattle.datapath_states.specs.StateCodes.{code_of}
use Rattle.datapath_states.specs.StatusCodes.{status_code_of}
use Rattle.sim_module.specs.declared.lane.Lane.{Lane}
use Rattle.sim_module.specs.declared.module.SimModule.{SimModule}

-- what stands for a lane that there isn't
abbrev pub no_lane : Lane
no_lane = record { path = Deactivated; ticks_left = 0; status = Undefined; staged = 0; active = 0; applying = None }

-- lane 1 is the first
abbrev pub lane_at : SimModule → ℕ → Lane
lane_at sim lane = get_or sim.lanes (lane - 1) no_lane

abbrev pub all_lanes : List ℕ
all_lanes = range_with_len 1 8

-- the control bytes of the Active Control Set, lane 1 first
abbrev pub active_bytes : SimModule → List ℕ
active_bytes sim = map (λ (lane : Lane). lane.active) sim.lanes

-- those of Staged Control Set 0
abbrev pub staged_bytes : SimModule → List ℕ
staged_bytes sim = map (λ (lane : Lane). lane.staged) sim.lanes

-- the states of the lanes' data paths, lane 1 first
abbrev pub path_states : SimModule → List PathState
path_states sim = map (λ (lane : Lane). lane.path) sim.lanes

abbrev pub is_path_state : PathState → PathState → Bool
is_path_state state other = code_of state == code_of other

-- DPDeactivated
abbrev pub is_deactivated : SimModule → ℕ → Bool
is_deactivated sim lane = is_path_state (lane_at sim lane).path Deactivated

-- ConfigInProgress: an apply of the lane has begun and is not done
abbrev pub is_in_progress : Lane → Bool
is_in_progress lane = status_code_of lane.status == status_code_of InProgress
