-- Within how many operations a port brings up a simulated module, by the delays of the module. (docs/module.md; this project's own)
use Rattle.std.specs.Prelude.{◌≡◌, ℕ, ◌+◌, ◌*◌, ◌<◌, true, false, [], ◌∷◌, None, length}
use Rattle.field_tables.specs.LaneSets.{IsLane}
use Rattle.module_states.specs.declared.state.ModuleState.{ModuleState}
use Rattle.module_states.specs.declared.state.ModuleState.TheVariants as module_is
use Rattle.paged_memory.specs.Images.{Memory}
use Rattle.port_manager.specs.declared.port.Port.{Port}
use Rattle.port_manager.specs.Ports.{plugged}
use Rattle.port_manager.specs.Progress.{IsGoingOn, IsUpStage, made_in}
use Rattle.port_manager.specs.Stories.{Story, plug, pull, reconsider, acknowledge, ask, make, drop, hold, demand, hear}
use Rattle.sim_module.specs.declared.delays.Delays.{Delays}
use Rattle.sim_module.specs.declared.module.SimModule.{SimModule}
use Rattle.sim_module.specs.ActiveSets.{HasNoApply}
use Rattle.sim_module.specs.Down.{has_low_power}
use Rattle.sim_module.specs.Lanes.{is_in_progress, lane_at}
use Rattle.sim_module.specs.Starts.{absent_half, start}
use Rattle.sim_liveness.specs.Timing.{CountersRun, HaveTime}
use Rattle.managed_module.specs.Managed.{HasHalves, Manages}

-- ModuleLowPwr, or on the way there
abbrev pub IsAsleep : ModuleState → Type 0
IsAsleep module_is.LowPwr = Unit {0}
IsAsleep module_is.PwrDn = Unit {0}
IsAsleep module_is.PwrUp = ⊥
IsAsleep module_is.Ready = ⊥
IsAsleep module_is.Fault = ⊥

-- no delay and no counter of the module is longer than this many ticks; no apply is in progress; and if low power is asked for, the module
-- is in it or on the way there
pub record IsSteady (most : ℕ) (sim : SimModule) : Type 0 where
  pub eight : length sim.lanes ≡ 8
  pub counters : CountersRun most sim
  pub none : HasNoApply sim
  pub quiet : (lane : ℕ) → IsLane lane → is_in_progress (lane_at sim lane) ≡ false
  pub power : has_low_power sim ≡ true → IsAsleep sim.state

-- so a new module is that has its halves
abbrev pub NewIsSteady : Type 0
NewIsSteady = (most : ℕ) (memory : Memory) (delays : Delays) → HaveTime most delays → absent_half memory ≡ None → HasHalves (start memory delays) × IsSteady most (start memory delays)

-- ---- at most so many reads of each state that isn't yet the one that is awaited

abbrev pub until_awake : ℕ → ℕ
until_awake most = 2 * most + 1

abbrev pub until_deactivated : ℕ → ℕ
until_deactivated most = 3 * most + 2

abbrev pub until_applied : ℕ → ℕ
until_applied most = most

abbrev pub until_activated : ℕ → ℕ
until_activated most = 3 * most + 2

abbrev pub most_waits : ℕ → ℕ
most_waits most = until_awake most + (until_deactivated most + (until_applied most + until_activated most))

-- ---- both together

-- no module is wanted to be in low power
abbrev pub WantsAwake : Story → Type 0
WantsAwake [] = Unit {0}
WantsAwake (plug now ∷ before) = WantsAwake before
WantsAwake (pull ∷ before) = WantsAwake before
WantsAwake (reconsider ∷ before) = WantsAwake before
WantsAwake (hold held ∷ before) = WantsAwake before
WantsAwake (demand request ∷ before) = WantsAwake before
WantsAwake (acknowledge past ∷ before) = WantsAwake before
WantsAwake (hear alive began ∷ before) = WantsAwake before
WantsAwake (ask op moment ∷ before) = WantsAwake before
WantsAwake (make op reply wanted now result ∷ before) = (wanted.asleep ≡ false) × WantsAwake before
WantsAwake (drop ∷ before) = WantsAwake before

-- the module is up once so many operations were made since the plug, unless something fails or it is left alone
abbrev pub ComesUpWithin : Type 0
ComesUpWithin =
    (most : ℕ) (port later : Port) (sim after : SimModule) (now : ℕ) (story : Story) → HasHalves sim → IsSteady most sim → Manages (plugged now port) sim story later after
    → IsGoingOn story → WantsAwake story → 65 + 3 * most_waits most < made_in story → IsUpStage later.stage
