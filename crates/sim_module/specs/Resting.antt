-- A module in which nothing moves. (docs/module.md, "Ticks"; this project's own)
use Rattle.std.specs.Prelude.{◌≡◌, ◌-◌, ◌==◌, ◌&&◌, Bool, true, false, List, get_or, length, map}
use Rattle.std.specs.List.{list_all}
use Rattle.sim_module.specs.declared.lane.Lane.{Lane}
use Rattle.sim_module.specs.declared.module.SimModule.{SimModule}
use Rattle.sim_module.specs.declared.moving.Moving.{Moving}
use Rattle.sim_module.specs.Record.{bare}
use Rattle.sim_module.specs.Lanes.{all_lanes, is_path_state, lane_at, no_lane}
use Rattle.sim_module.specs.Ticks.{is_module_state, next_module_state, ticked, ticked_flags, ticked_lane}

-- if it is noted that nothing moves, a tick leaves the module as it is
abbrev pub RestsIf : Bool → SimModule → Type 0
RestsIf true sim = ticked sim ≡ sim
RestsIf false sim = Unit {0}

-- a lane keeps its state and its counter
abbrev pub stays : Lane → Lane → Bool
stays before after = is_path_state after.path before.path && after.ticks_left == before.ticks_left

-- each lane does, by these lanes afterwards
abbrev pub all_stay : SimModule → List Lane → Bool
all_stay sim after = list_all (λ lane. stays (lane_at sim lane) (get_or after (lane - 1) no_lane)) all_lanes

-- conditions on a module, and on its lanes after a tick, under which the tick leaves it as it is
pub record IsStill (moving : Moving) : Type 0 where
  pub eight : length moving.lanes ≡ 8
  pub apply_left : moving.apply_left ≡ 0
  pub ticks_left : moving.ticks_left ≡ 0
  pub state : is_module_state (next_module_state (bare moving)) moving.state ≡ true
  pub lanes : all_stay (bare moving) (map (ticked_lane (bare moving)) all_lanes) ≡ true
  pub flags : ticked_flags (bare moving) ≡ moving.lane_flags
