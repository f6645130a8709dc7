-- When nothing holds down the lanes of a module that are in use, and that they come up then. (docs/module.md, "Down";
-- OIF-CMIS-05.0, section 6.3.3 Data Path State Machine, the signals DPDeinitS and DPReDeinitS)
use Rattle.std.specs.Prelude.{◌≡◌, ℕ, ◌≤◌, true, false, List}
use Rattle.std.specs.FinSet as set
use Rattle.field_tables.specs.LaneSets.{IsLane}
use Rattle.module_states.specs.declared.state.ModuleState.TheVariants.{Ready}
use Rattle.datapath_states.specs.declared.state.PathState.TheVariants.{Activated}
use Rattle.control_sets.specs.HostPaths.{control_at, is_used}
use Rattle.sim_module.specs.declared.module.SimModule.{SimModule}
use Rattle.sim_module.specs.ActiveSets.{IsAtRest}
use Rattle.sim_module.specs.Down.{has_low_power, is_down}
use Rattle.sim_module.specs.Lanes.{is_in_progress, lane_at}
use Rattle.sim_liveness.specs.Timing.{CountersRun, Pause, paused, ticks_in, until_up}

-- by these active bytes the lane is in a path
abbrev pub IsInUse : List ℕ → ℕ → Type 0
IsInUse control lane = is_used (control_at control lane) ≡ true

-- the module is ready, nothing asks for low power, no apply is in progress, these bytes are active, and no lane that is in a
-- path by them has its DPDeinit bit set
pub record IsReleased (control : List ℕ) (sim : SimModule) : Type 0 where
  pub rest : IsAtRest control sim
  pub ready : sim.state ≡ Ready
  pub awake : has_low_power sim ≡ false
  pub quiet : (lane : ℕ) → IsLane lane → is_in_progress (lane_at sim lane) ≡ false
  pub clear : (lane : ℕ) → IsLane lane → IsInUse control lane → set.contains sim.deinit lane ≡ false

-- no such lane is down then
abbrev pub ReleasedAreNotDown : Type 0
ReleasedAreNotDown =
    (sim : SimModule) (control : List ℕ) (lane : ℕ) → IsReleased control sim → IsLane lane → IsInUse control lane → is_down sim lane ≡ false

-- and so it stays while fetches, selections of pages and ticks alone come
abbrev pub ReleasedStay : Type 0
ReleasedStay = (sim : SimModule) (control : List ℕ) (pauses : List Pause) → IsReleased control sim → IsReleased control (paused pauses sim)

-- so each such lane is DPActivated in time
abbrev pub ReleasedComeUp : ℕ → Type 0
ReleasedComeUp most =
    (sim : SimModule) (control : List ℕ) (lane : ℕ) (pauses : List Pause) → CountersRun most sim → IsReleased control sim → IsLane lane → IsInUse control lane
    → until_up sim.delays (lane_at sim lane).path (lane_at sim lane).ticks_left ≤ ticks_in pauses → (lane_at (paused pauses sim) lane).path ≡ Activated
