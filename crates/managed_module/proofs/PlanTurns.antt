-- What follows an operation while a plan of the module's own is provisioned, or its lanes are activated: no fault but that it took too long.
use Rattle.std.proofs.Common.{◌≡◌, inl, ℕ, ◌+◌, ◌≤◌, true, false, Some, refl, sym, ap, subst, ◌∙◌, arith}
use Rattle.std.specs.Prelude.{slice_get}
use Rattle.bus_model.specs.declared.operation.Op.{Op}
use Rattle.bus_model.specs.declared.operation.Reply.{Reply}
use Rattle.bus_model.specs.Operations.{Answers}
use Rattle.conversations.specs.declared.on_page.OnPage.{OnPage}
use Rattle.conversations.specs.declared.pausing.Patience.{Patience}
use Rattle.control_sets.specs.declared.procedures.procedure.TaskList.{TaskList}
use Rattle.control_sets.specs.declared.procedures.procedure.Work.{Work}
use Rattle.control_sets.specs.Progress.{PatientProcedure, tasks_of}
use Rattle.port_manager.specs.declared.deciding.Goal.{Goal}
use Rattle.port_manager.specs.declared.deciding.Wanted.{Wanted}
use Rattle.port_manager.specs.declared.job.Job.{Job}
use Rattle.port_manager.specs.declared.job.Job.TheVariants as jobs
use Rattle.port_manager.specs.Jobs.{activating, activation_of, asked, confirming, look_after, paged_tasks, procedure_after, procedure_wants, provisioning_of}
use Rattle.port_manager.specs.declared.look.Look.{Look}
use Rattle.port_manager.specs.Patients.{Patient, after_on, wants_on}
use Rattle.port_manager.specs.Turns.{IsTurnOf, Turn, activated, fault_in, provisioned}
use Rattle.port_manager.proofs.PatientLaws.{asked_on, kept_within, never_waits, paged_never}
use Rattle.port_manager.proofs.TurnCases.{IsAnyTurn, pause_of, tasks_never}
use Rattle.sim_module.specs.declared.module.SimModule.{SimModule}
use Rattle.managed_module.specs.Managed.{HasHalves}
use Rattle.managed_module.proofs.PlanActivation.{activation_well}
use Rattle.managed_module.proofs.PlanApplying.{provisioning_well}
use Rattle.managed_module.proofs.PlanPhases.{Activates, Provisions, Rests, activates_harmless, provisions_harmless}
use Rattle.managed_module.proofs.PlanSteps.{IsFine, goes_fine}
use Rattle.managed_module.proofs.OwnTasks.{module_after, reply_of}
use Rattle.port_manager.proofs.LeftLaws.{left_of_tasks, tasks_counted}
use Rattle.port_manager.proofs.PageProgress.{some_patient}
use Rattle.port_manager.proofs.TurnProgress.{left}
use Rattle.managed_module.proofs.JobSteps.{job_goes_on}
use Rattle.managed_module.proofs.JobTurns.{activating_ended, confirmed, ends_or_goes, procedure_ends, provisioning_ended}
use Rattle.managed_module.proofs.Links.{takes_reply}
use Rattle.managed_module.proofs.PlanNearer.{nearer_by}
use Rattle.managed_module.proofs.PlanTime.{HasTime, advanced_time}
use Rattle.managed_module.proofs.Waits.{look_linked, look_nearer, procedure_linked, task_answered}
use Rattle.managed_module.proofs.PlanJobs.{GoesWell, IsEarly, IsTimely, WellTurn, EndsInTime, activated_well, all_met, going_well, list_of, no_fault, provisioned_well}

-- before a list of tasks has ended one of its operations is left, and the four of the look after it
pub early : (most total : ℕ) (patience : Patience) (made : ℕ) (job : Job) (sim : SimModule) (op : Op) → GoesWell most (total + 4) patience made job sim → asked job ≡ Some op → IsEarly (λ made. made + 1 ≤ total) made job
early most total patience made (jobs.Reading job woken) sim op goes asks = tt
early most total patience made (jobs.Waking job) sim op goes asks = tt
early most total patience made (jobs.Sleeping job) sim op goes asks = tt
early most total patience made (jobs.Provisioning job goal) sim op goes asks = omega (arith, goes.few, some_patient paged_tasks left_of_tasks tasks_counted job op asks)
early most total patience made (jobs.Activating job goal) sim op goes asks = omega (arith, goes.few, some_patient paged_tasks left_of_tasks tasks_counted job op asks)
early most total patience made (jobs.Confirming job) sim op goes asks = tt
early most total patience made (jobs.Watching job) sim op goes asks = tt

module _ (late : Type 0) (most total : ℕ) (patience : Patience) (made : ℕ) (sim : SimModule) (op : Op) (reply : Reply) (has : HasHalves sim) (answers : Answers op reply) (gives : reply ≡ reply_of sim op) where
  abbrev after : SimModule
  after = module_after sim op

  abbrev pub Good : Job → Type 0
  Good job = GoesWell most total patience (made + 1) job after

  module _ (wanted : Wanted) (job : PatientProcedure) (goal : Goal) (turn : Turn) where
    abbrev next : PatientProcedure
    next = procedure_after job reply

    procedure_time : HasTime patience made job → HasTime patience (made + 1) next
    procedure_time time = advanced_time (wants_on paged_tasks) (after_on paged_tasks) patience made job reply time

    provisioning_turn : GoesWell most total patience made (jobs.Provisioning job goal) sim → asked (jobs.Provisioning job goal) ≡ Some op → EndsInTime late next → IsTurnOf wanted (jobs.Provisioning job goal) reply turn → WellTurn late Good turn
    provisioning_turn goes asks timely is =
        let own = goes.fine in
        let on = job_goes_on most sim (jobs.Provisioning job goal) op reply goes.less has tt goes.linked goes.at asks answers gives in
        let t = asked_on paged_tasks job op asks in
        let near = nearer_by sim has job op reply asks answers gives goes.linked goes.less on.less on.fewer on.waits in
        let time = procedure_time goes.time in
        let P = Provisions most own.memory goal.control own.active goal.outside in
        let fine : IsFine (provisioning_of goal) P (list_of next) after =
        kept_within (λ (on : OnPage TaskList). IsFine (provisioning_of goal) P on.conversation after) (wants_on paged_tasks) (after_on paged_tasks) job reply
        (goes_fine (provisioning_of goal) P sim has (λ op harmless met at. provisions_harmless most own.memory goal.control own.active goal.outside op sim harmless met at)
        (provisioning_well most own.conventions own.memory own.paths own.kept goal own.active own.fits sim has) job.conversation.conversation t.inner op reply own.fine goes.at.3 t.wants t.is gives (task_answered sim has job op reply asks answers gives goes.linked)) in
        ends_or_goes (procedure_wants next) (pause_of (jobs.Provisioning job goal) reply) (jobs.Provisioning next goal) (λ end turn. turn ≡ provisioned goal next.conversation.patience (fault_in end)) turn (WellTurn late Good) is
        (λ wants e. going_well late Good (pause_of (jobs.Provisioning job goal) reply) (jobs.Provisioning next goal)
        (record {
          linked = procedure_linked sim has job op reply asks answers gives goes.linked;
          fine = record { conventions = own.conventions; memory = own.memory; paths = own.paths; kept = own.kept; active = own.active; fits = own.fits; fine = fine };
          less = on.less;
          at = on.at;
          few = omega (arith, goes.few, near);
          time = time;
        }))
        (λ wait e. never_waits (wants_on paged_tasks) (after_on paged_tasks) job reply wait (paged_never paged_tasks tasks_never) e)
        (λ spent e ended. subst (WellTurn late Good) (sym ended)
        (provisioned_well late Good goal next.conversation.patience spent.end (timely spent e)
        (λ end.
        let over = procedure_ends next spent e (ap fault_in end) in
        let led = provisioning_ended most goes.less sim op reply has answers gives job goal spent on e (ap fault_in end) in
        let rests : Rests most own.memory goal.control after =
        all_met most own.memory goal.control own.active goal.outside (list_of next).met after (ap (λ (work : Work). slice_get (tasks_of work) (list_of next).met) (sym fine.same) ∙ over.1) fine.at in
        let more : left (activating goal next.conversation.patience) ≡ 14 = refl in
        record {
          linked = λ opened. absurd (let same : false ≡ true = opened in cc);
          fine = record { memory = own.memory; active = own.active; fine = record { same = refl; none = refl; at = rests } };
          less = led.0;
          at = led.1;
          few = omega (arith, goes.few, led.2, more, some_patient paged_tasks left_of_tasks tasks_counted job op asks);
          time = record { steps = omega arith; limit = refl; idle = omega arith; patience = time.patience };
        })
        (λ because end. no_fault next spent because fine.none e end)))

    activating_turn : GoesWell most total patience made (jobs.Activating job goal) sim → asked (jobs.Activating job goal) ≡ Some op → EndsInTime late next → IsTurnOf wanted (jobs.Activating job goal) reply turn → WellTurn late Good turn
    activating_turn goes asks timely is =
        let own = goes.fine in
        let on = job_goes_on most sim (jobs.Activating job goal) op reply goes.less has tt goes.linked goes.at asks answers gives in
        let t = asked_on paged_tasks job op asks in
        let near = nearer_by sim has job op reply asks answers gives goes.linked goes.less on.less on.fewer on.waits in
        let P = Activates most own.memory goal.control own.active goal.outside in
        let fine : IsFine (activation_of goal) P (list_of next) after =
        kept_within (λ (on : OnPage TaskList). IsFine (activation_of goal) P on.conversation after) (wants_on paged_tasks) (after_on paged_tasks) job reply
        (goes_fine (activation_of goal) P sim has (λ op harmless met at. activates_harmless most own.memory goal.control own.active goal.outside op sim harmless met at)
        (activation_well most own.memory goal.control own.active goal.outside goal.lanes sim has) job.conversation.conversation t.inner op reply own.fine goes.at.3 t.wants t.is gives (task_answered sim has job op reply asks answers gives goes.linked)) in
        ends_or_goes (procedure_wants next) (pause_of (jobs.Activating job goal) reply) (jobs.Activating next goal) (λ end turn. turn ≡ activated goal next.conversation.patience (fault_in end)) turn (WellTurn late Good) is
        (λ wants e. going_well late Good (pause_of (jobs.Activating job goal) reply) (jobs.Activating next goal)
        (record {
          linked = procedure_linked sim has job op reply asks answers gives goes.linked;
          fine = record { memory = own.memory; active = own.active; fine = fine };
          less = on.less;
          at = on.at;
          few = omega (arith, goes.few, near);
          time = procedure_time goes.time;
        }))
        (λ wait e. never_waits (wants_on paged_tasks) (after_on paged_tasks) job reply wait (paged_never paged_tasks tasks_never) e)
        (λ spent e ended. subst (WellTurn late Good) (sym ended) (activated_well late Good goal next.conversation.patience spent.end (timely spent e)
        (λ end.
        let led = activating_ended most goes.less sim op reply has answers gives job goal spent on e (ap fault_in end) in
        let four : left (confirming goal next.conversation.patience) ≡ 4 = refl in
        record {
          linked = λ opened. absurd (let same : false ≡ true = opened in cc);
          fine = tt;
          less = led.0;
          at = led.1;
          few = omega (arith, goes.few, led.2, four, some_patient paged_tasks left_of_tasks tasks_counted job op asks);
          time = tt;
        })
        (λ because end. no_fault next spent because fine.none e end)))

  module _ (wanted : Wanted) (job : Patient (OnPage Look)) (turn : Turn) where
    confirming_turn : GoesWell most total patience made (jobs.Confirming job) sim → asked (jobs.Confirming job) ≡ Some op → IsTurnOf wanted (jobs.Confirming job) reply turn → WellTurn late Good turn
    confirming_turn goes asks is =
        let on = job_goes_on most sim (jobs.Confirming job) op reply goes.less has tt goes.linked goes.at asks answers gives in
        confirmed most sim has wanted job op reply turn goes.at asks gives is (WellTurn late Good) (λ goal patience. inl tt)
        (going_well late Good (pause_of (jobs.Confirming job) reply) (jobs.Confirming (look_after job reply)) (record {
          linked = look_linked sim has job op reply asks answers gives goes.linked;
          fine = tt;
          less = on.less;
          at = on.at;
          few = omega (arith, goes.few, look_nearer sim has job op reply asks answers gives goes.linked, on.fewer);
          time = tt;
        }))

  pub turn_well : (wanted : Wanted) (job : Job) (turn : Turn) → GoesWell most total patience made job sim → asked job ≡ Some op → IsTimely late job reply → IsAnyTurn wanted job reply turn → WellTurn late Good turn
  turn_well wanted (jobs.Reading job woken) turn goes asks timely is = absurd goes.fine
  turn_well wanted (jobs.Waking job) turn goes asks timely is = absurd goes.fine
  turn_well wanted (jobs.Sleeping job) turn goes asks timely is = absurd goes.fine
  turn_well wanted (jobs.Provisioning job goal) turn goes asks timely is =
      provisioning_turn wanted job goal turn goes asks timely (takes_reply sim op reply wanted (jobs.Provisioning job goal) turn has gives asks is)
  turn_well wanted (jobs.Activating job goal) turn goes asks timely is =
      activating_turn wanted job goal turn goes asks timely (takes_reply sim op reply wanted (jobs.Activating job goal) turn has gives asks is)
  turn_well wanted (jobs.Confirming job) turn goes asks timely is = confirming_turn wanted job turn goes asks (takes_reply sim op reply wanted (jobs.Confirming job) turn has gives asks is)
  turn_well wanted (jobs.Watching job) turn goes asks timely is = absurd goes.fine
