-- That a port brings up a simulated module without a failure: what is wanted suits the module, and its states don't last for longer than
-- the port waits. (docs/module.md; this project's own)
use Rattle.std.specs.Prelude.{◌≡◌, ◌⊎◌, ℕ, ◌+◌, ◌*◌, ◌<◌, ◌≤◌, true, false, List, [], ◌∷◌, Some, None, length}
use Rattle.std.specs.FinMap as map
use Rattle.std.specs.FinSet as set
use Rattle.field_tables.specs.declared.field.Field.TheVariants as fields
use Rattle.field_tables.specs.declared.table.cmis.CmisField.TheVariants as cmis
use Rattle.field_tables.specs.LaneSets.{IsLane, is_empty}
use Rattle.field_tables.specs.Readings.{number}
use Rattle.paged_memory.specs.declared.key.Key.{Key}
use Rattle.paged_memory.specs.Images.{Memory}
use Rattle.applications.specs.Refusals.{advert_fault_under}
use Rattle.applications.specs.Weights.{weight_at}
use Rattle.plan_certificate.specs.declared.path.Path.{Path}
use Rattle.plan_certificate.specs.Paths.{app_of, is_allowed}
use Rattle.datapath_states.specs.declared.state.PathState.TheVariants.{Deactivated}
use Rattle.control_sets.specs.ControlBytes.{control_of}
use Rattle.control_sets.specs.Durations.{patience_for}
use Rattle.control_sets.specs.HostPaths.{is_used}
use Rattle.port_manager.specs.declared.deciding.Wanted.{Wanted}
use Rattle.port_manager.specs.declared.port.Outcome.{Outcome}
use Rattle.port_manager.specs.declared.port.Outcome.TheVariants as outcome
use Rattle.port_manager.specs.declared.port.Port.{Port}
use Rattle.port_manager.specs.declared.turn.PortFault.{PortFault}
use Rattle.port_manager.specs.declared.turn.PortFault.TheVariants as faults
use Rattle.port_manager.specs.Goals.{conventions_of}
use Rattle.port_manager.specs.Ports.{plugged}
use Rattle.port_manager.specs.Progress.{made_in}
use Rattle.port_manager.specs.Runs.{Becomes}
use Rattle.port_manager.specs.Stories.{Story, plug, pull, reconsider, acknowledge, ask, make, drop, hold, demand, hear}
use Rattle.sim_module.specs.declared.module.SimModule.{SimModule}
use Rattle.sim_module.specs.Lanes.{lane_at}
use Rattle.sim_liveness.specs.Accepted.{read_by}
use Rattle.managed_module.specs.Bounds.{IsSteady, most_waits}
use Rattle.managed_module.specs.ComingUp.{HasComeUp, IsUndisturbed}
use Rattle.managed_module.specs.Managed.{Answered, HasHalves}

-- ---- the module

-- each half that it has is whole
abbrev pub AreWhole : Memory → Type 0
AreWhole memory = (key : Key) (bytes : List ℕ) → map.get memory key ≡ Some bytes → length bytes ≡ 128

-- each read of a state takes a tick and is followed by a pause, and the longest of its states ends before the port gives up
pub record IsAwaited (most : ℕ) (memory : Memory) : Type 0 where
  pub ticks : most ≤ 1000
  pub time : (3 * most + 5) * (patience_for memory).pause ≤ (patience_for memory).limit

-- a lane is in no path: DPDeactivated, and its active AppSelCode is 0
abbrev pub IsSpare : SimModule → ℕ → Type 0
IsSpare sim lane = ((lane_at sim lane).path ≡ Deactivated) × (is_used (control_of (lane_at sim lane).active) ≡ false)

-- ---- what is wanted

-- a path that the module can carry, of a host interface that weighs something
pub record HasPath (sim : SimModule) (wanted : Wanted) : Type 0 where
  pub path : Path
  pub allowed : is_allowed (read_by (conventions_of wanted) sim) path ≡ true
  pub weighs : 0 < weight_at wanted.hosts (app_of (read_by (conventions_of wanted) sim) path).host_id

-- the port has no reason to leave the module alone: it is to be awake, its Applications can be read, it needs no more power than it may
-- have, there is a path for it or lanes are to be down, and each lane that is in a path may be taken down
pub record Suits (sim : SimModule) (wanted : Wanted) : Type 0 where
  pub awake : wanted.asleep ≡ false
  pub read : advert_fault_under (conventions_of wanted) sim.image ≡ None
  pub power : number sim.image (fields.Cmis cmis.MaxPower) ≤ wanted.max_power
  pub plan : HasPath sim wanted ⊎ (is_empty wanted.down ≡ false)
  pub may : (lane : ℕ) → IsLane lane → (set.contains wanted.may_take_down lane ≡ true) ⊎ IsSpare sim lane

abbrev pub AllSuit : SimModule → Story → Type 0
AllSuit sim [] = Unit {0}
AllSuit sim (plug now ∷ before) = AllSuit sim before
AllSuit sim (pull ∷ before) = AllSuit sim before
AllSuit sim (reconsider ∷ before) = AllSuit sim before
AllSuit sim (hold held ∷ before) = AllSuit sim before
AllSuit sim (demand request ∷ before) = AllSuit sim before
AllSuit sim (acknowledge past ∷ before) = AllSuit sim before
AllSuit sim (hear alive began ∷ before) = AllSuit sim before
AllSuit sim (ask op moment ∷ before) = AllSuit sim before
AllSuit sim (make op reply wanted now result ∷ before) = Suits sim wanted × AllSuit sim before
AllSuit sim (drop ∷ before) = AllSuit sim before

-- ---- what happens

-- neither provisioning nor activation
abbrev pub IsNoProcedure : PortFault → Type 0
IsNoProcedure faults.Unread = Unit {0}
IsNoProcedure faults.Asleep = Unit {0}
IsNoProcedure (faults.Waking why) = Unit {0}
IsNoProcedure (faults.Sleeping why) = Unit {0}
IsNoProcedure faults.Unseen = Unit {0}
IsNoProcedure (faults.Provisioning why) = ⊥
IsNoProcedure (faults.Activating why) = ⊥
IsNoProcedure faults.Changed = Unit {0}
IsNoProcedure faults.ApplyRefused = ⊥
IsNoProcedure faults.WakingRefused = Unit {0}

abbrev pub NoProcedureFails : Outcome → Type 0
NoProcedureFails outcome.Dropped = Unit {0}
NoProcedureFails (outcome.Went note) = Unit {0}
NoProcedureFails (outcome.Paused moment) = Unit {0}
NoProcedureFails (outcome.Failed fault moment) = IsNoProcedure fault
NoProcedureFails (outcome.Left reason) = Unit {0}

-- the module stays, nothing else is asked for, and neither provisioning nor activation fails
abbrev pub ProceduresSucceed : Story → Type 0
ProceduresSucceed story = IsUndisturbed NoProcedureFails story

-- a port and a module become others by a story, whatever was read
abbrev pub Works : Port → SimModule → Story → Port → SimModule → Type 0
Works port sim [] later after = (later ≡ port) × (after ≡ sim)
Works port sim (event ∷ before) later after = (between : Port) × (sim_between : SimModule) × Works port sim before between sim_between × Becomes between event later × Answered event sim_between after

-- the module has come up once so many operations were made since the plug, unless provisioning or activation fails: neither does a
-- reading fail, nor is it woken up in vain, nor left alone
abbrev pub ComesUpSuited : Type 0
ComesUpSuited =
    (most : ℕ) (port later : Port) (sim after : SimModule) (now : ℕ) (story : Story) → HasHalves sim → IsSteady most sim → AreWhole sim.image → IsAwaited most sim.image → Works (plugged now port) sim story later after
    → ProceduresSucceed story → AllSuit sim story → 65 + 3 * most_waits most < made_in story → HasComeUp story
