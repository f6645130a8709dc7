-- What holds of a module at all times, and of its lanes while they move. (docs/module.md, "What always holds"; this
-- project's own)
use Rattle.std.specs.Prelude.{◌≡◌, ℕ, List, true, false, None, is_some, IsTrue, length}
use Rattle.bus_model.specs.declared.operation.Op.{Op}
use Rattle.bus_model.specs.declared.operation.Step.{Step}
use Rattle.bus_model.specs.declared.script.Directive.{Directive}
use Rattle.bus_model.specs.Keeping.{IsKeptBy, IsKeptInTime}
use Rattle.bus_model.specs.Runs.{Ran, Seen}
use Rattle.bus_model.specs.ScriptedBus.{script_rules}
use Rattle.datapath_states.specs.declared.state.PathState.TheVariants.{Activated, Deactivated, Init}
use Rattle.field_tables.specs.LaneSets.{IsLane}
use Rattle.control_sets.specs.HostPaths.{agree}
use Rattle.sim_module.specs.declared.lane.Lane.{Lane}
use Rattle.sim_module.specs.declared.module.SimModule.{SimModule}
use Rattle.sim_module.specs.Lanes.{active_bytes, is_in_progress, lane_at}
use Rattle.sim_module.specs.Down.{holds_down, is_down}
use Rattle.sim_module.specs.Modules.{conduct}
use Rattle.sim_module.specs.Ticks.{ticked}

-- a lane for which an apply keeps a byte says so by its status
abbrev pub TellsProgress : Lane → Type 0
TellsProgress lane = IsTrue (is_some lane.applying) → IsTrue (is_in_progress lane)

-- there are eight lanes, and those of an apply in progress have the status ConfigInProgress
pub record IsSound (sim : SimModule) : Type 0 where
  pub eight : length sim.lanes ≡ 8
  pub progress : (lane : ℕ) → TellsProgress (lane_at sim lane)

-- if P holds of a module, it still does after each tick, setting of the pin, and fetch and store, whole or cut
pub record IsAlwaysKept (P : SimModule → Type 0) : Type 0 where
  pub time : IsKeptInTime conduct (λ on. Unit {0}) P
  pub operations : (op : Op) → IsKeptBy conduct P op

-- whatever a script refuses, cuts short or waits for: a sound module is sound after the steps that were made on its bus
abbrev pub RunsLeaveSound : Type 0
RunsLeaveSound =
    (old new : Seen (List Directive × SimModule)) (made : List Step) → IsSound old.state.1 → Ran (script_rules conduct) old new made → IsSound new.state.1

-- a lane is down if a lane of its active path is held down
abbrev pub HoldsItsPath : Type 0
HoldsItsPath =
    (sim : SimModule) (lane other : ℕ) → IsLane other → agree (active_bytes sim) lane other ≡ true → holds_down sim other ≡ true → is_down sim lane ≡ true

-- what a tick makes of a lane that is activated and not down, and that no apply in progress holds
pub record StaysUp (before after : Lane) : Type 0 where
  pub path : after.path ≡ before.path
  pub active : after.active ≡ before.active
  pub applying : after.applying ≡ None

abbrev pub LanesStayUp : Type 0
LanesStayUp =
    (sim : SimModule) (lane : ℕ) → IsLane lane → (lane_at sim lane).path ≡ Activated → is_down sim lane ≡ false → (lane_at sim lane).applying ≡ None
    → StaysUp (lane_at sim lane) (lane_at (ticked sim) lane)

-- a tick begins to bring up a lane that is deactivated and not down, for as long as DPInit lasts
pub record ComesUp (after : Lane) (delay : ℕ) : Type 0 where
  pub path : after.path ≡ Init
  pub ticks_left : after.ticks_left ≡ delay

abbrev pub LanesComeUp : Type 0
LanesComeUp =
    (sim : SimModule) (lane : ℕ) → IsLane lane → (lane_at sim lane).path ≡ Deactivated → is_down sim lane ≡ false → ComesUp (lane_at (ticked sim) lane) sim.delays.init
