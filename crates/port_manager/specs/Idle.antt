-- A module that is up as it is wanted, and a port while nothing changes. (this project's own)
use Rattle.std.specs.Prelude.{◌≡◌, ℕ, Bool, true, false, List, [], ◌∷◌, Some, None}
use Rattle.applications.specs.Refusals.{advert_fault_under}
use Rattle.field_tables.specs.declared.field.Field.TheVariants as fields
use Rattle.field_tables.specs.declared.table.cmis.CmisField.TheVariants as cmis
use Rattle.field_tables.specs.Readings.{number}
use Rattle.paged_memory.specs.Images.{Memory}
use Rattle.bus_model.specs.declared.operation.Op.{Op}
use Rattle.bus_model.specs.declared.operation.Reply.{Reply}
use Rattle.conversations.specs.declared.on_page.OnPage.{OnPage}
use Rattle.module_reading.specs.declared.halves.Halves.{Halves}
use Rattle.port_manager.specs.declared.deciding.Goal.{Goal}
use Rattle.port_manager.specs.declared.deciding.Wanted.{Wanted}
use Rattle.port_manager.specs.declared.port.Outstanding.TheVariants as outstanding
use Rattle.port_manager.specs.declared.port.Port.{Port}
use Rattle.conversations.specs.declared.next.Next.TheVariants.{Do}
use Rattle.port_manager.specs.declared.port.Stage.TheVariants as stages
use Rattle.port_manager.specs.declared.port.Outcome.{Outcome}
use Rattle.port_manager.specs.declared.port.Outcome.TheVariants as outcome
use Rattle.port_manager.specs.declared.job.Job.TheVariants as jobs
use Rattle.port_manager.specs.Decisions.{has_no_plan, page_of_lanes}
use Rattle.port_manager.specs.Goals.{HasGoal, advert_of, are_up, conventions_of, has_all}
use Rattle.port_manager.specs.Ports.{IsTaken, next_at}
use Rattle.port_manager.specs.Runs.{Runs}
use Rattle.port_manager.specs.Requests.{granted}
use Rattle.port_manager.specs.Stores.{StoresNothing}
use Rattle.port_manager.specs.Jobs.{reading_after, reading_wants}
use Rattle.port_manager.specs.Patients.{Patient}
use Rattle.port_manager.specs.Stories.{Story, plug, pull, reconsider, acknowledge, ask, make, drop, hold, demand, hear}
use Rattle.port_manager.specs.Readings.{IsWhole}

-- the plan has lanes, or lanes are to be down, and page 11h shows all of the plan as up
pub record IsGoalUp (wanted : Wanted) (page : List ℕ) (goal : Goal) : Type 0 where
  pub some : has_no_plan wanted goal ≡ false
  pub has : has_all page goal.control ≡ true
  pub up : are_up page goal.control goal.lanes ≡ true

-- the module of this image is ready, and has its first best plan up
pub record IsUp (wanted : Wanted) (image : Memory) : Type 0 where
  pub awake : wanted.asleep ≡ false
  pub advertised : advert_fault_under (conventions_of wanted) image ≡ None
  pub ready : number image (fields.Cmis cmis.ModuleState) ≡ 3
  pub page : List ℕ
  pub there : page_of_lanes image ≡ Some page
  pub each : (goal : Goal) → HasGoal (advert_of wanted image) wanted page goal → IsGoalUp wanted page goal

abbrev pub IsCalmOutcome : Outcome → Type 0
IsCalmOutcome outcome.Dropped = Unit {0}
IsCalmOutcome (outcome.Went note) = Unit {0}
IsCalmOutcome (outcome.Paused moment) = Unit {0}
IsCalmOutcome (outcome.Failed fault moment) = ⊥
IsCalmOutcome (outcome.Left reason) = Unit {0}

-- the module stays, no other weights are wanted, and it is never found to be otherwise
abbrev pub IsCalm : Story → Type 0
IsCalm [] = Unit {0}
IsCalm (plug now ∷ before) = ⊥
IsCalm (pull ∷ before) = ⊥
IsCalm (reconsider ∷ before) = ⊥
IsCalm (hold held ∷ before) = ⊥
IsCalm (demand request ∷ before) = ⊥
IsCalm (acknowledge past ∷ before) = IsCalm before
IsCalm (hear alive began ∷ before) = IsCalm before
IsCalm (ask op moment ∷ before) = IsCalm before
IsCalm (make op reply wanted now result ∷ before) = IsCalmOutcome result × IsCalm before
IsCalm (drop ∷ before) = IsCalm before

-- a port whose reading has just shown that the module is up stores nothing until something changes
abbrev pub LeavesWhatIsUp : Type 0
LeavesWhatIsUp =
    (port between later : Port) (reading : Patient (OnPage Halves)) (woken : Bool) (reply : Reply) (wanted : Wanted) (now moment : ℕ) (result : Outcome) (more : Story) (op : Op)
    → port.outstanding ≡ outstanding.Awaited → port.stage ≡ stages.Working (jobs.Reading reading woken)
    → IsWhole (reading_wants (reading_after reading reply)) → IsUp (granted port.request wanted) (reading_after reading reply).conversation.conversation.conversation.image
    → IsTaken port reply wanted now result between → Runs between more later → IsCalm more
    → next_at later moment ≡ Do op → StoresNothing op
