-- How many ticks a module needs at most until a lane is deactivated or activated, or the module is ready, while fetches,
-- selections of pages and ticks alone come. (docs/module.md, "Ticks"; OIF-CMIS-05.0, sections 6.3.2 Module State Machine and 6.3.3 Data Path State Machine)
use Rattle.std.specs.Prelude.{◌≡◌, ℕ, ◌+◌, ◌≤◌, true, false, IsTrue, is_some, List, [], ◌∷◌, Some, None}
use Rattle.std.specs.FinSet as set
use Rattle.bus_model.specs.declared.device.Dev.{Dev}
use Rattle.bus_model.specs.declared.device.Dev.TheVariants.{A0}
use Rattle.field_tables.specs.LaneSets.{IsLane}
use Rattle.paged_memory.specs.Images.{Memory}
use Rattle.sim_module.specs.Starts.{are_delays, start}
use Rattle.module_states.specs.declared.state.ModuleState.{ModuleState}
use Rattle.module_states.specs.declared.state.ModuleState.TheVariants as module_is
use Rattle.datapath_states.specs.declared.state.PathState.{PathState}
use Rattle.datapath_states.specs.declared.state.PathState.TheVariants as path_is
use Rattle.datapath_states.specs.declared.status.ConfigStatus.TheVariants.{Success}
use Rattle.sim_module.specs.declared.delays.Delays.{Delays}
use Rattle.sim_module.specs.declared.lane.Lane.{Lane}
use Rattle.sim_module.specs.declared.module.SimModule.{SimModule}
use Rattle.sim_module.specs.Down.{has_low_power, is_down}
use Rattle.sim_module.specs.Lanes.{is_in_progress, lane_at}
use Rattle.sim_module.specs.ShownBytes.{fetched}
use Rattle.sim_module.specs.Stores.{stored}
use Rattle.sim_module.specs.Ticks.{ticked}

-- a tick at least, and no more than this
abbrev pub IsWithin : ℕ → ℕ → Type 0
IsWithin most time = (1 ≤ time) × (time ≤ most)

-- each work takes that long
pub record HaveTime (most : ℕ) (delays : Delays) : Type 0 where
  pub apply : IsWithin most delays.apply
  pub init : IsWithin most delays.init
  pub turn_on : IsWithin most delays.turn_on
  pub turn_off : IsWithin most delays.turn_off
  pub deinit : IsWithin most delays.deinit
  pub power_up : IsWithin most delays.power_up
  pub power_down : IsWithin most delays.power_down

-- in a state that ends by itself a counter runs
abbrev pub Runs : ℕ → PathState → ℕ → Type 0
Runs most path_is.Deactivated left = Unit {0}
Runs most path_is.Initialized left = Unit {0}
Runs most path_is.Activated left = Unit {0}
Runs most path_is.Init left = IsWithin most left
Runs most path_is.TxTurnOn left = IsWithin most left
Runs most path_is.TxTurnOff left = IsWithin most left
Runs most path_is.Deinit left = IsWithin most left

abbrev pub ModuleRuns : ℕ → ModuleState → ℕ → Type 0
ModuleRuns most module_is.LowPwr left = Unit {0}
ModuleRuns most module_is.PwrUp left = IsWithin most left
ModuleRuns most module_is.Ready left = Unit {0}
ModuleRuns most module_is.PwrDn left = IsWithin most left
ModuleRuns most module_is.Fault left = ⊥

-- ticks until a lane in this state, which is down, is deactivated
abbrev pub until_down : Delays → PathState → ℕ → ℕ
until_down delays path_is.Deactivated left = 0
until_down delays path_is.Deinit left = left
until_down delays path_is.Initialized left = 1 + delays.deinit
until_down delays path_is.TxTurnOff left = left + (1 + delays.deinit)
until_down delays path_is.Activated left = 1 + delays.turn_off + (1 + delays.deinit)
until_down delays path_is.TxTurnOn left = left + (1 + delays.turn_off + (1 + delays.deinit))
until_down delays path_is.Init left = left + (1 + delays.deinit)

-- ticks until a lane that is not down is activated
abbrev pub until_up : Delays → PathState → ℕ → ℕ
until_up delays path_is.Activated left = 0
until_up delays path_is.TxTurnOn left = left
until_up delays path_is.Initialized left = 1 + delays.turn_on
until_up delays path_is.Init left = left + (1 + delays.turn_on)
until_up delays path_is.Deactivated left = 1 + delays.init + (1 + delays.turn_on)
until_up delays path_is.TxTurnOff left = left + (1 + delays.turn_on)
until_up delays path_is.Deinit left = left + (1 + delays.init + (1 + delays.turn_on))

-- ticks until a module of which nothing asks for low power is ready
abbrev pub until_ready : Delays → ModuleState → ℕ → ℕ
until_ready delays module_is.Ready left = 0
until_ready delays module_is.PwrUp left = left
until_ready delays module_is.LowPwr left = 1 + delays.power_up
until_ready delays module_is.PwrDn left = left + (1 + delays.power_up)
until_ready delays module_is.Fault left = 0

-- ---- what comes meanwhile

pub data Pause : Type 0 where
  tick : Pause
  fetch : Dev → ℕ → ℕ → Pause
  -- a bank and a page are selected
  select : ℕ → ℕ → Pause

abbrev pub after_pause : Pause → SimModule → SimModule
after_pause tick sim = ticked sim
after_pause (fetch dev address count) sim = (fetched sim dev address count).1
after_pause (select bank page) sim = (stored sim A0 126 (bank ∷ page ∷ [])).1

-- the newest first
abbrev pub paused : List Pause → SimModule → SimModule
paused [] sim = sim
paused (pause ∷ before) sim = after_pause pause (paused before sim)

abbrev pub ticks_of : Pause → ℕ
ticks_of tick = 1
ticks_of (fetch dev address count) = 0
ticks_of (select bank page) = 0

abbrev pub ticks_in : List Pause → ℕ
ticks_in [] = 0
ticks_in (pause ∷ before) = ticks_of pause + ticks_in before

-- a lane is not down, and stays so
abbrev pub StaysReleased : SimModule → ℕ → List Pause → Type 0
StaysReleased sim lane [] = Unit {0}
StaysReleased sim lane (pause ∷ before) = (is_down (paused before sim) lane ≡ false) × StaysReleased sim lane before

abbrev pub LaneRuns : ℕ → SimModule → ℕ → Type 0
LaneRuns most sim lane = Runs most (lane_at sim lane).path (lane_at sim lane).ticks_left

-- a lane whose DPDeinit bit is set is deactivated in time
abbrev pub GoesDownInTime : ℕ → Type 0
GoesDownInTime most =
    (sim : SimModule) (lane : ℕ) (pauses : List Pause) → IsLane lane → HaveTime most sim.delays → LaneRuns most sim lane → set.contains sim.deinit lane ≡ true
    → until_down sim.delays (lane_at sim lane).path (lane_at sim lane).ticks_left ≤ ticks_in pauses → (lane_at (paused pauses sim) lane).path ≡ path_is.Deactivated

-- a lane that is not down is activated in time
abbrev pub ComesUpInTime : ℕ → Type 0
ComesUpInTime most =
    (sim : SimModule) (lane : ℕ) (pauses : List Pause) → IsLane lane → HaveTime most sim.delays → LaneRuns most sim lane → StaysReleased sim lane pauses
    → until_up sim.delays (lane_at sim lane).path (lane_at sim lane).ticks_left ≤ ticks_in pauses → (lane_at (paused pauses sim) lane).path ≡ path_is.Activated

-- a module of which nothing asks for low power, and that has no fault, is ready in time
abbrev pub WakesInTime : ℕ → Type 0
WakesInTime most =
    (sim : SimModule) (pauses : List Pause) → HaveTime most sim.delays → ModuleRuns most sim.state sim.ticks_left → has_low_power sim ≡ false
    → until_ready sim.delays sim.state sim.ticks_left ≤ ticks_in pauses → (paused pauses sim).state ≡ module_is.Ready

-- an apply of the lane is done
pub record IsApplied (lane : Lane) (byte : ℕ) : Type 0 where
  pub active : lane.active ≡ byte
  pub status : lane.status ≡ Success
  pub applying : lane.applying ≡ None

-- an apply in progress is done in time, with the byte that it kept
abbrev pub AppliesInTime : Type 0
AppliesInTime =
    (sim : SimModule) (lane byte : ℕ) (pauses : List Pause) → IsLane lane → (lane_at sim lane).applying ≡ Some byte → 1 ≤ sim.apply_left
    → sim.apply_left ≤ ticks_in pauses → IsApplied (lane_at (paused pauses sim) lane) byte

-- of a lane whose status is ConfigInProgress an apply keeps a byte, and the counter of applies runs
abbrev pub ApplyRuns : ℕ → SimModule → ℕ → Type 0
ApplyRuns most sim lane = is_in_progress (lane_at sim lane) ≡ true → IsTrue (is_some (lane_at sim lane).applying) × IsWithin most sim.apply_left

-- in each state that ends by itself a counter runs, of the lanes and of the module, which has no fault, and so it does of an apply;
-- none of them, and no delay, is longer than this
pub record CountersRun (most : ℕ) (sim : SimModule) : Type 0 where
  pub time : HaveTime most sim.delays
  pub lanes : (lane : ℕ) → IsLane lane → LaneRuns most sim lane
  pub state : ModuleRuns most sim.state sim.ticks_left
  pub applies : (lane : ℕ) → IsLane lane → ApplyRuns most sim lane

-- they do in a new module with such delays, for one of which no delay is longer than 1000 ticks
abbrev pub NewCountersRun : Type 0
NewCountersRun = (most : ℕ) (memory : Memory) (delays : Delays) → HaveTime most delays → CountersRun most (start memory delays)

abbrev pub AllowedAreWithin : Type 0
AllowedAreWithin = (delays : Delays) → are_delays delays ≡ true → HaveTime 1000 delays
