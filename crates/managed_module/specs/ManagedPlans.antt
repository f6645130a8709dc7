-- That a port which begins to provision a plan of what a simulated module advertises brings it up, if it grants the time.
-- (docs/module.md; this project's own)
use Rattle.std.specs.Prelude.{◌≡◌, ◌⊎◌, ◌+◌, ◌*◌, ◌<◌, ◌≤◌, ℕ, true, List, All, Contains}
use Rattle.field_tables.specs.LaneSets.{IsLane}
use Rattle.paged_memory.specs.Images.{Memory}
use Rattle.conversations.specs.declared.pausing.Patience.{Patience}
use Rattle.module_states.specs.declared.state.ModuleState.TheVariants.{Ready}
use Rattle.applications.specs.Advertised.{advertised_under}
use Rattle.applications.specs.declared.conventions.Conventions.{Conventions}
use Rattle.plan_certificate.specs.declared.path.Path.{Path}
use Rattle.plan_certificate.specs.Plans.{IsAdmissible}
use Rattle.control_sets.specs.declared.fault.ProvisionFault.TheVariants.{GaveUp}
use Rattle.control_sets.specs.ControlBytes.{control_bytes}
use Rattle.control_sets.specs.Judgements.{at_lane}
use Rattle.control_sets.specs.OutcomeAnswers.{most_steps}
use Rattle.control_sets.specs.PlanLanes.{is_taken, lanes_outside, plan_lanes}
use Rattle.port_manager.specs.declared.deciding.Goal.{Goal}
use Rattle.port_manager.specs.declared.port.Outcome.{Outcome}
use Rattle.port_manager.specs.declared.port.Outcome.TheVariants as outcome
use Rattle.port_manager.specs.declared.port.Outstanding.TheVariants as outstanding
use Rattle.port_manager.specs.declared.port.Port.{Port}
use Rattle.port_manager.specs.declared.port.Stage.TheVariants as stages
use Rattle.port_manager.specs.declared.turn.PortFault.{PortFault}
use Rattle.port_manager.specs.declared.turn.PortFault.TheVariants as faults
use Rattle.port_manager.specs.declared.turn.ProcedureFault.{ProcedureFault}
use Rattle.port_manager.specs.declared.turn.ProcedureFault.TheVariants as why
use Rattle.port_manager.specs.Jobs.{provisioning}
use Rattle.port_manager.specs.Progress.{IsGoingOn, made_in}
use Rattle.port_manager.specs.Stories.{Story}
use Rattle.sim_module.specs.declared.module.SimModule.{SimModule}
use Rattle.sim_module.specs.KeptPaths.{IsActivePath}
use Rattle.sim_module.specs.Lanes.{active_bytes}
use Rattle.sim_module.specs.OwnAdverts.{own_advert}
use Rattle.managed_module.specs.Bounds.{IsSteady, until_activated, until_applied, until_deactivated}
use Rattle.managed_module.specs.ComingUp.{HasComeUp, IsUndisturbed}
use Rattle.managed_module.specs.Managed.{HasHalves, Manages}

-- the goal is a plan of what this memory advertises; the paths that it keeps are active, with the plan's control bytes
pub record IsGoalFor (conventions : Conventions) (paths kept : List Path) (goal : Goal) (memory : Memory) (active : List ℕ) : Type 0 where
  pub plan : IsAdmissible (advertised_under conventions memory) paths
  pub keeps : All (Contains paths) kept
  pub up : All (IsActivePath (advertised_under conventions memory) active) kept
  pub bytes : (lane : ℕ) → IsLane lane → is_taken (advertised_under conventions memory) kept lane ≡ true → at_lane active lane ≡ at_lane goal.control lane
  pub control : goal.control ≡ control_bytes (advertised_under conventions memory) paths
  pub lanes : goal.lanes ≡ plan_lanes (advertised_under conventions memory) paths
  pub outside : goal.outside ≡ lanes_outside (advertised_under conventions memory) kept

-- the module is ready for a goal
pub record IsReadyFor (most : ℕ) (conventions : Conventions) (paths kept : List Path) (goal : Goal) (sim : SimModule) : Type 0 where
  pub halves : HasHalves sim
  pub steady : IsSteady most sim
  pub ready : sim.state ≡ Ready
  pub own : sim.advert ≡ own_advert sim.image
  pub fits : IsGoalFor conventions paths kept goal sim.image (active_bytes sim)

-- the port begins to provision it
pub record BeginsToProvision (goal : Goal) (patience : Patience) (port : Port) : Type 0 where
  pub stage : port.stage ≡ stages.Working (provisioning goal patience)
  pub free : port.outstanding ≡ outstanding.Nothing

-- ---- the time that is granted

-- a state lasted for too long, or too many operations were made
abbrev pub IsLate : ProcedureFault → Type 0
IsLate (why.Failed because) = because ≡ GaveUp
IsLate why.Overdue = Unit {0}

abbrev pub TookTooLong : PortFault → Type 0
TookTooLong faults.Unread = ⊥
TookTooLong faults.Asleep = ⊥
TookTooLong (faults.Waking because) = IsLate because
TookTooLong (faults.Sleeping because) = IsLate because
TookTooLong (faults.Provisioning because) = IsLate because
TookTooLong (faults.Activating because) = IsLate because
TookTooLong faults.Unseen = ⊥
TookTooLong faults.Changed = ⊥
TookTooLong faults.ApplyRefused = ⊥
TookTooLong faults.WakingRefused = Unit {0}

abbrev pub IsInTime : Outcome → Type 0
IsInTime outcome.Dropped = Unit {0}
IsInTime (outcome.Went note) = Unit {0}
IsInTime (outcome.Paused moment) = Unit {0}
IsInTime (outcome.Failed because moment) = ¬ (TookTooLong because)
IsInTime (outcome.Left reason) = Unit {0}

-- provisioning and activation make so many operations at most
abbrev pub most_made : ℕ → ℕ
most_made most = 32 + (until_deactivated most + (until_applied most + until_activated most))

-- and the look at the module that came up makes four
abbrev pub most_until_up : ℕ → ℕ
most_until_up most = most_made most + 4

-- so many may be made, and so many pauses in a row are not too long
pub record LastsFor (made : ℕ) (patience : Patience) : Type 0 where
  pub operations : made < most_steps
  pub pauses : made * patience.pause ≤ patience.limit

-- ---- what comes of it

-- until it has, nothing fails but by taking too long
abbrev pub PlansDontFail : Type 0
PlansDontFail =
    (most : ℕ) (conventions : Conventions) (paths kept : List Path) (goal : Goal) (patience : Patience) (port later : Port) (sim after : SimModule) (story : Story)
    → IsReadyFor most conventions paths kept goal sim → BeginsToProvision goal patience port → Manages port sim story later after → IsUndisturbed IsInTime story
    → HasComeUp story ⊎ IsGoingOn story

-- and nothing takes too long, if the patience lasts
abbrev pub PlansComeUp : Type 0
PlansComeUp =
    (most : ℕ) (conventions : Conventions) (paths kept : List Path) (goal : Goal) (patience : Patience) (port later : Port) (sim after : SimModule) (story : Story)
    → IsReadyFor most conventions paths kept goal sim → BeginsToProvision goal patience port → LastsFor (most_made most) patience → Manages port sim story later after
    → IsUndisturbed (λ result. Unit {0}) story → most_until_up most < made_in story → HasComeUp story
