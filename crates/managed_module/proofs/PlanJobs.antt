-- Jobs that provision a plan of the module's own, or activate its lanes: where they stand while no fault is found, and how they end.
use Rattle.std.proofs.Common.{◌≡◌, ◌⊎◌, inl, inr, ℕ, zero, suc, ◌+◌, ◌*◌, ◌≤◌, ◌<◌, List, Option, Some, None, refl}
use Rattle.std.specs.Prelude.{slice_get}
use Rattle.bus_model.specs.declared.operation.Reply.{Reply}
use Rattle.bus_model.specs.ScriptedBus.{ticked_times}
use Rattle.field_tables.specs.LaneSets.{Lanes}
use Rattle.paged_memory.specs.Images.{Memory}
use Rattle.conversations.specs.declared.next.Next.TheVariants.{End}
use Rattle.conversations.specs.declared.pausing.Patience.{Patience}
use Rattle.conversations.specs.declared.pausing.Timed.{Timed}
use Rattle.conversations.specs.declared.pausing.Timed.TheVariants.{InTime, Overdue as Late}
use Rattle.conversations.specs.declared.within.Spent.{Spent}
use Rattle.applications.specs.declared.conventions.Conventions.{Conventions}
use Rattle.plan_certificate.specs.declared.path.Path.{Path}
use Rattle.control_sets.specs.declared.fault.ProvisionFault.{ProvisionFault}
use Rattle.control_sets.specs.declared.procedures.procedure.TaskList.{TaskList}
use Rattle.control_sets.specs.declared.procedures.task.Task.{Task}
use Rattle.control_sets.specs.Progress.{PatientProcedure, hand}
use Rattle.control_sets.specs.Progress as progress
use Rattle.control_sets.specs.Tasks.{provisioning}
use Rattle.port_manager.specs.declared.deciding.Goal.{Goal}
use Rattle.port_manager.specs.declared.job.Job.{Job}
use Rattle.port_manager.specs.declared.job.Job.TheVariants as jobs
use Rattle.port_manager.specs.Jobs.{activating, activation_of, confirming, paged_tasks, procedure_after, procedure_for, procedure_wants, provisioning_of}
use Rattle.port_manager.specs.Patients.{after_on, wants_on}
use Rattle.port_manager.specs.Turns.{Turn, activated, fault_in, going, provisioned}
use Rattle.port_manager.specs.Turns as turns
use Rattle.port_manager.proofs.PatientLaws.{paged_never}
use Rattle.port_manager.proofs.TurnCases.{tasks_never}
use Rattle.sim_module.specs.declared.module.SimModule.{SimModule}
use Rattle.sim_module.specs.Modules.{conduct}
use Rattle.sim_module.specs.Ticks.{ticked}
use Rattle.managed_module.specs.ComingUp.{IsUpNote}
use Rattle.managed_module.specs.ManagedPlans.{IsGoalFor, TookTooLong}
use Rattle.managed_module.proofs.PlanPhases.{Activates, Provisions, Rests, activates_tick, provisions_tick}
use Rattle.managed_module.proofs.PlanSteps.{IsFine}
use Rattle.port_manager.specs.declared.port.Stage.TheVariants as stages
use Rattle.port_manager.proofs.TurnProgress.{left}
use Rattle.control_sets.specs.OutcomeAnswers.{most_steps}
use Rattle.managed_module.proofs.JobSteps.{JobAt, job_paused}
use Rattle.managed_module.proofs.JobTurns.{procedure_ended}
use Rattle.managed_module.proofs.ManagedLaw.{stage_paused}
use Rattle.managed_module.proofs.PlanTime.{HasTime, in_time}
use Rattle.managed_module.proofs.Waits.{LinkedJob}

abbrev pub list_of : PatientProcedure → TaskList
list_of job = job.conversation.conversation.conversation

-- a plan of the module's own is provisioned
pub record ProvisionsOwn (most : ℕ) (job : PatientProcedure) (goal : Goal) (sim : SimModule) : Type 0 where
  pub conventions : Conventions
  pub memory : Memory
  pub paths : List Path
  pub kept : List Path
  pub active : List ℕ
  pub fits : IsGoalFor conventions paths kept goal memory active
  pub fine : IsFine (provisioning_of goal) (Provisions most memory goal.control active goal.outside) (list_of job) sim

-- or its lanes are activated
pub record ActivatesOwn (most : ℕ) (job : PatientProcedure) (goal : Goal) (sim : SimModule) : Type 0 where
  pub memory : Memory
  pub active : List ℕ
  pub fine : IsFine (activation_of goal) (Activates most memory goal.control active goal.outside) (list_of job) sim

abbrev pub IsFineJob : ℕ → Job → SimModule → Type 0
IsFineJob most (jobs.Reading job woken) sim = ⊥
IsFineJob most (jobs.Waking job) sim = ⊥
IsFineJob most (jobs.Sleeping job) sim = ⊥
IsFineJob most (jobs.Provisioning job goal) sim = ProvisionsOwn most job goal sim
IsFineJob most (jobs.Activating job goal) sim = ActivatesOwn most job goal sim
IsFineJob most (jobs.Confirming job) sim = Unit {0}
IsFineJob most (jobs.Watching job) sim = ⊥

pub begins_fine : (most : ℕ) (conventions : Conventions) (paths kept : List Path) (goal : Goal) (patience : Patience) (memory : Memory) (active : List ℕ) (sim : SimModule) → IsGoalFor conventions paths kept goal memory active → Rests most memory active sim
    → IsFineJob most (jobs.Provisioning (procedure_for (provisioning_of goal) patience) goal) sim
begins_fine most conventions paths kept goal patience memory active sim fits rests = record {
  conventions = conventions;
  memory = memory;
  paths = paths;
  kept = kept;
  active = active;
  fits = fits;
  fine = record { same = refl; none = refl; at = rests };
}

-- a plan that is active already
pub begins_active : (most : ℕ) (goal : Goal) (patience : Patience) (memory : Memory) (sim : SimModule) → Rests most memory goal.control sim → IsFineJob most (activating goal patience) sim
begins_active most goal patience memory sim rests = record { memory = memory; active = goal.control; fine = record { same = refl; none = refl; at = rests } }

fine_tick : (most : ℕ) (job : Job) (sim : SimModule) → IsFineJob most job sim → IsFineJob most job (ticked sim)
fine_tick most (jobs.Reading job woken) sim fine = fine
fine_tick most (jobs.Waking job) sim fine = fine
fine_tick most (jobs.Sleeping job) sim fine = fine
fine_tick most (jobs.Provisioning job goal) sim own = record {
  conventions = own.conventions;
  memory = own.memory;
  paths = own.paths;
  kept = own.kept;
  active = own.active;
  fits = own.fits;
  fine = record { same = own.fine.same; none = own.fine.none; at = provisions_tick most own.memory goal.control own.active goal.outside (list_of job).met sim own.fine.at };
}
fine_tick most (jobs.Activating job goal) sim own = record {
  memory = own.memory;
  active = own.active;
  fine = record { same = own.fine.same; none = own.fine.none; at = activates_tick most own.memory goal.control own.active goal.outside (list_of job).met sim own.fine.at };
}
fine_tick most (jobs.Confirming job) sim fine = fine
fine_tick most (jobs.Watching job) sim fine = fine

pub fine_paused : (most : ℕ) (job : Job) (count : ℕ) (sim : SimModule) → IsFineJob most job sim → IsFineJob most job (ticked_times conduct count sim)
fine_paused most job zero sim fine = fine
fine_paused most job (suc count) sim fine = fine_tick most job (ticked_times conduct count sim) (fine_paused most job count sim fine)

-- ---- the end of a list of tasks

ends_without : (fault : Option ProvisionFault) (found : Option Task) (because : ProvisionFault) → fault ≡ None → progress.wants_by fault found ≡ End (Some because) → ⊥
ends_without None None because none e = absurd cc
ends_without None (Some task) because none e = absurd cc
ends_without (Some fault) found because none e = absurd cc

-- once all its tasks are met, the plan is active
pub all_met : (most : ℕ) (memory : Memory) (control active : List ℕ) (lanes : Lanes) (met : ℕ) (sim : SimModule) → slice_get (provisioning control lanes) met ≡ None → Provisions most memory control active lanes met sim → Rests most memory control sim
all_met most memory control active lanes zero sim e at = absurd cc
all_met most memory control active lanes (suc zero) sim e at = absurd cc
all_met most memory control active lanes (suc (suc zero)) sim e at = absurd cc
all_met most memory control active lanes (suc (suc (suc zero))) sim e at = absurd cc
all_met most memory control active lanes (suc (suc (suc (suc zero)))) sim e at = absurd cc
all_met most memory control active lanes (suc (suc (suc (suc (suc zero))))) sim e at = absurd cc
all_met most memory control active lanes (suc (suc (suc (suc (suc (suc zero)))))) sim e at = absurd cc
all_met most memory control active lanes (suc (suc (suc (suc (suc (suc (suc met))))))) sim e at = at

-- ---- turns

-- how a list of tasks has ended
abbrev Ending : Type 0
Ending = Option (Timed (Option ProvisionFault))

-- in time, unless it may be late
abbrev InTimeUnless : Type 0 → Ending → Type 0
InTimeUnless late end = ((fault : Option ProvisionFault) × (end ≡ Some (InTime fault))) ⊎ late

abbrev pub EndsInTime : Type 0 → PatientProcedure → Type 0
EndsInTime late job = (spent : Spent (Timed (Option ProvisionFault))) → procedure_wants job ≡ End spent → InTimeUnless late spent.end

abbrev pub IsTimely : Type 0 → Job → Reply → Type 0
IsTimely late (jobs.Reading job woken) reply = Unit {0}
IsTimely late (jobs.Waking job) reply = Unit {0}
IsTimely late (jobs.Sleeping job) reply = Unit {0}
IsTimely late (jobs.Provisioning job goal) reply = EndsInTime late (procedure_after job reply)
IsTimely late (jobs.Activating job goal) reply = EndsInTime late (procedure_after job reply)
IsTimely late (jobs.Confirming job) reply = Unit {0}
IsTimely late (jobs.Watching job) reply = Unit {0}

pub at_any_time : (job : Job) (reply : Reply) → IsTimely (Unit {0}) job reply
at_any_time (jobs.Reading job woken) reply = tt
at_any_time (jobs.Waking job) reply = tt
at_any_time (jobs.Sleeping job) reply = tt
at_any_time (jobs.Provisioning job goal) reply = λ spent e. inr tt
at_any_time (jobs.Activating job goal) reply = λ spent e. inr tt
at_any_time (jobs.Confirming job) reply = tt
at_any_time (jobs.Watching job) reply = tt

-- it is up, or goes on; what fails took too long
abbrev pub WellTurn : Type 0 → (Job → Type 0) → Turn → Type 0
WellTurn late Good (turns.On job note) = IsUpNote note ⊎ Good job
WellTurn late Good (turns.Paused job time) = Good job
WellTurn late Good (turns.Failed why) = TookTooLong why × late
WellTurn late Good (turns.Left reason) = ⊥

is_late : (late : Type 0) (end : Ending) → ((fault : Option ProvisionFault) → end ≡ Some (InTime fault) → ⊥) → InTimeUnless late end → late
is_late late end never (inl (fault, is)) = absurd (never fault is)
is_late late end never (inr over) = over

no_end : (fault : Option ProvisionFault) → ◌≡◌ {A = Ending} None (Some (InTime fault)) → ⊥
no_end fault e = cc

no_late_end : (fault : Option ProvisionFault) → ◌≡◌ {A = Ending} (Some Late) (Some (InTime fault)) → ⊥
no_late_end fault e = cc

module _ (late : Type 0) (Good : Job → Type 0) where
  pub going_well : (pause : Option ℕ) (job : Job) → Good job → WellTurn late Good (going pause job)
  going_well None job good = inr good
  going_well (Some time) job good = good

  pub provisioned_well : (goal : Goal) (patience : Patience) (end : Ending) → InTimeUnless late end → (end ≡ Some (InTime None) → Good (activating goal patience))
      → ((because : ProvisionFault) → end ≡ Some (InTime (Some because)) → ⊥) → WellTurn late Good (provisioned goal patience (fault_in end))
  provisioned_well goal patience None timely good fails = (refl, is_late late None no_end timely)
  provisioned_well goal patience (Some Late) timely good fails = (tt, is_late late (Some Late) no_late_end timely)
  provisioned_well goal patience (Some (InTime None)) timely good fails = inr (good refl)
  provisioned_well goal patience (Some (InTime (Some because))) timely good fails = absurd (fails because refl)

  pub activated_well : (goal : Goal) (patience : Patience) (end : Ending) → InTimeUnless late end → (end ≡ Some (InTime None) → Good (confirming goal patience)) → ((because : ProvisionFault) → end ≡ Some (InTime (Some because)) → ⊥) → WellTurn late Good (activated goal patience (fault_in end))
  activated_well goal patience None timely good fails = (refl, is_late late None no_end timely)
  activated_well goal patience (Some Late) timely good fails = (tt, is_late late (Some Late) no_late_end timely)
  activated_well goal patience (Some (InTime None)) timely good fails = inr (good refl)
  activated_well goal patience (Some (InTime (Some because))) timely good fails = absurd (fails because refl)

-- a list without a fault ends in none
pub no_fault : (job : PatientProcedure) (spent : Spent (Timed (Option ProvisionFault))) (because : ProvisionFault) → (list_of job).fault ≡ None → procedure_wants job ≡ End spent → spent.end ≡ Some (InTime (Some because)) → ⊥
no_fault job spent because none e end = ends_without (list_of job).fault (hand (list_of job)) because none (procedure_ended job spent (Some because) e end)

-- ---- one operation

abbrev pub IsTimedJob : Patience → ℕ → Job → Type 0
IsTimedJob patience made (jobs.Reading job woken) = Unit {0}
IsTimedJob patience made (jobs.Waking job) = Unit {0}
IsTimedJob patience made (jobs.Sleeping job) = Unit {0}
IsTimedJob patience made (jobs.Provisioning job goal) = HasTime patience made job
IsTimedJob patience made (jobs.Activating job goal) = HasTime patience made job
IsTimedJob patience made (jobs.Confirming job) = Unit {0}
IsTimedJob patience made (jobs.Watching job) = Unit {0}

-- after so many operations: the job is without a fault, and with what is left to be done and to be waited for there are so many in all
pub record GoesWell (most total : ℕ) (patience : Patience) (made : ℕ) (job : Job) (sim : SimModule) : Type 0 where
  pub linked : LinkedJob job sim
  pub fine : IsFineJob most job sim
  pub less : ℕ
  pub at : JobAt most job sim less
  pub few : made + (left job + less) ≤ total
  pub time : IsTimedJob patience made job

pub goes_paused : (most total : ℕ) (patience : Patience) (made : ℕ) (job : Job) (count : ℕ) (sim : SimModule) → GoesWell most total patience made job sim → GoesWell most total patience made job (ticked_times conduct count sim)
goes_paused most total patience made job count sim goes = record {
  linked = stage_paused (stages.Working job) count sim goes.linked;
  fine = fine_paused most job count sim goes.fine;
  less = goes.less;
  at = job_paused most job count sim goes.less goes.at;
  few = goes.few;
  time = goes.time;
}

-- a list of tasks is in hand, and so many operations are not too many
abbrev pub IsEarly : (ℕ → Type 0) → ℕ → Job → Type 0
IsEarly Few made (jobs.Reading job woken) = Unit {0}
IsEarly Few made (jobs.Waking job) = Unit {0}
IsEarly Few made (jobs.Sleeping job) = Unit {0}
IsEarly Few made (jobs.Provisioning job goal) = Few made
IsEarly Few made (jobs.Activating job goal) = Few made
IsEarly Few made (jobs.Confirming job) = Unit {0}
IsEarly Few made (jobs.Watching job) = Unit {0}

-- no list of tasks ends late
module _ (patience : Patience) (made : ℕ) where
  abbrev pub IsShort : ℕ → Type 0
  IsShort made = (made + 1 < most_steps) × (made * patience.pause ≤ patience.limit)

  pub timely : (job : Job) (reply : Reply) → IsEarly IsShort made job → IsTimedJob patience made job → IsTimely ⊥ job reply
  timely (jobs.Reading job woken) reply short time = tt
  timely (jobs.Waking job) reply short time = tt
  timely (jobs.Sleeping job) reply short time = tt
  timely (jobs.Provisioning job goal) reply short time = λ spent e.
      inl (in_time (wants_on paged_tasks) (after_on paged_tasks) patience made job reply time short.0 short.1 (wants_on paged_tasks (after_on paged_tasks job.conversation.conversation reply)) refl
      (paged_never paged_tasks tasks_never (after_on paged_tasks job.conversation.conversation reply)) spent e)
  timely (jobs.Activating job goal) reply short time = λ spent e.
      inl (in_time (wants_on paged_tasks) (after_on paged_tasks) patience made job reply time short.0 short.1 (wants_on paged_tasks (after_on paged_tasks job.conversation.conversation reply)) refl
      (paged_never paged_tasks tasks_never (after_on paged_tasks job.conversation.conversation reply)) spent e)
  timely (jobs.Confirming job) reply short time = tt
  timely (jobs.Watching job) reply short time = tt
