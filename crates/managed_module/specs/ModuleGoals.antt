-- That the goal which a port takes for a simulated module is a plan of what the module advertises. (docs/planning.md, "Kept paths"; this
-- project's own)
use Rattle.std.specs.Prelude.{◌≡◌, ◌⊎◌, ℕ, true, List, ◌∷◌, All, Contains}
use Rattle.bus_model.specs.declared.operation.Op.{Op}
use Rattle.bus_model.specs.declared.operation.Reply.{Reply}
use Rattle.conversations.specs.declared.pausing.Patience.{Patience}
use Rattle.field_tables.specs.LaneSets.{IsLane}
use Rattle.module_states.specs.declared.state.ModuleState.TheVariants.{Ready}
use Rattle.applications.specs.declared.conventions.Conventions.{Conventions}
use Rattle.plan_certificate.specs.declared.path.Path.{Path}
use Rattle.plan_certificate.specs.Plans.{IsAdmissible}
use Rattle.control_sets.specs.ControlBytes.{control_bytes}
use Rattle.control_sets.specs.PlanLanes.{is_taken, lanes_outside, plan_lanes}
use Rattle.port_manager.specs.declared.deciding.Goal.{Goal}
use Rattle.port_manager.specs.declared.deciding.Wanted.{Wanted}
use Rattle.port_manager.specs.declared.port.Outcome.TheVariants as outcome
use Rattle.port_manager.specs.declared.port.Port.{Port}
use Rattle.port_manager.specs.declared.port.Stage.{Stage}
use Rattle.port_manager.specs.declared.port.Stage.TheVariants as stages
use Rattle.port_manager.specs.declared.turn.Note.TheVariants as notes
use Rattle.port_manager.specs.Goals.{at_lane, conventions_of}
use Rattle.port_manager.specs.Jobs.{activating, provisioning}
use Rattle.port_manager.specs.Ports.{plugged}
use Rattle.port_manager.specs.Stories.{Story, make}
use Rattle.sim_module.specs.declared.module.SimModule.{SimModule}
use Rattle.sim_module.specs.KeptPaths.{IsActivePath}
use Rattle.sim_module.specs.Lanes.{active_bytes}
use Rattle.sim_liveness.specs.Accepted.{read_by}
use Rattle.managed_module.specs.Bounds.{IsSteady}
use Rattle.managed_module.specs.Managed.{HasHalves}
use Rattle.managed_module.specs.ComingUp.{HasComeUp}
use Rattle.managed_module.specs.Succeeds.{AllSuit, AreWhole, IsAwaited, ProceduresSucceed, Works}

-- the control bytes that are active are those of a plan
pub record IsPlanned (conventions : Conventions) (sim : SimModule) : Type 0 where
  pub paths : List Path
  pub plan : IsAdmissible (read_by conventions sim) paths
  pub active : active_bytes sim ≡ control_bytes (read_by conventions sim) paths

-- the module is ready, and the goal is a plan of what it advertises; its kept paths are among the plan's, and active with their control
-- bytes
pub record IsOwnGoal (most : ℕ) (wanted : Wanted) (sim : SimModule) (goal : Goal) : Type 0 where
  pub halves : HasHalves sim
  pub steady : IsSteady most sim
  pub ready : sim.state ≡ Ready
  pub paths : List Path
  pub kept : List Path
  pub plan : IsAdmissible (read_by (conventions_of wanted) sim) paths
  pub keeps : All (Contains paths) kept
  pub active : All (IsActivePath (read_by (conventions_of wanted) sim) (active_bytes sim)) kept
  pub bytes : (lane : ℕ) → IsLane lane → is_taken (read_by (conventions_of wanted) sim) kept lane ≡ true → at_lane (active_bytes sim) lane ≡ at_lane goal.control lane
  pub control : goal.control ≡ control_bytes (read_by (conventions_of wanted) sim) paths
  pub lanes : goal.lanes ≡ plan_lanes (read_by (conventions_of wanted) sim) paths
  pub outside : goal.outside ≡ lanes_outside (read_by (conventions_of wanted) sim) kept

-- provisioning for the goal begins, or activation
abbrev pub Begins : Stage → Goal → Type 0
Begins stage goal = (patience : Patience) × ((stage ≡ stages.Working (provisioning goal patience)) ⊎ (stage ≡ stages.Working (activating goal patience)))

-- until the module has come up, so is each goal that a reading leads to, if the control bytes that are active at first are those of a plan
abbrev pub GoalsAreOwn : Type 0
GoalsAreOwn =
    (most : ℕ) (port later : Port) (sim after : SimModule) (now moment : ℕ) (story : Story) (op : Op) (reply : Reply) (wanted : Wanted) (goal : Goal) → HasHalves sim → IsSteady most sim → AreWhole sim.image → IsAwaited most sim.image
    → Works (plugged now port) sim (make op reply wanted moment (outcome.Went notes.Identified) ∷ story) later after → ProceduresSucceed story → AllSuit sim (make op reply wanted moment (outcome.Went notes.Identified) ∷ story)
    → IsPlanned (conventions_of wanted) sim → Begins later.stage goal → HasComeUp story ⊎ IsOwnGoal most wanted after goal
