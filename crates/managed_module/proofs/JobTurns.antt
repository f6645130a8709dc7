-- What each turn of a job at a simulated module leads to: less is left to be done, or to be waited for.
use Rattle.std.proofs.Common.{◌≡◌, ◌⊎◌, inl, inr, ℕ, zero, suc, ◌+◌, ◌*◌, ◌≤◌, Bool, true, false, List, Option, Some, None, refl, sym, ap, subst, ◌∙◌, arith}
use Rattle.std.specs.Prelude.{slice_get}
use Rattle.bus_model.specs.declared.operation.Op.{Op}
use Rattle.bus_model.specs.declared.operation.Reply.{Reply}
use Rattle.bus_model.specs.declared.operation.Reply.TheVariants.{Bytes, Done, Refused}
use Rattle.bus_model.specs.Operations.{Answers}
use Rattle.field_tables.specs.LaneSets.{Lanes}
use Rattle.conversations.specs.declared.next.Next.{Next}
use Rattle.conversations.specs.declared.next.Next.TheVariants.{Do, Wait, End}
use Rattle.conversations.specs.declared.on_page.OnPage.{OnPage}
use Rattle.conversations.specs.declared.pausing.Patience.{Patience}
use Rattle.conversations.specs.declared.pausing.Timed.{Timed}
use Rattle.conversations.specs.declared.pausing.Timed.TheVariants.{InTime, Overdue}
use Rattle.conversations.specs.declared.within.Spent.{Spent}
use Rattle.conversations.specs.Pauses.{next_pausing}
use Rattle.conversations.specs.Selecting.{next_on}
use Rattle.conversations.specs.Wanted.{op_of}
use Rattle.control_sets.specs.declared.fault.ProvisionFault.{ProvisionFault}
use Rattle.control_sets.specs.declared.procedures.judgement.ReplyJudgement.{ReplyJudgement}
use Rattle.control_sets.specs.declared.procedures.judgement.ReplyJudgement.TheVariants.{Met, NotYet, Fails}
use Rattle.control_sets.specs.declared.procedures.power.Power.{Power}
use Rattle.control_sets.specs.declared.procedures.power.PowerChange.{PowerChange}
use Rattle.control_sets.specs.declared.procedures.power.PowerStage.{PowerStage}
use Rattle.control_sets.specs.declared.procedures.power.PowerStage.TheVariants as stage
use Rattle.control_sets.specs.declared.procedures.procedure.Work.{Work}
use Rattle.control_sets.specs.declared.procedures.task.Task.{Task}
use Rattle.control_sets.specs.Durations.{patience_for}
use Rattle.control_sets.specs.OutcomeCodes.{module_code}
use Rattle.control_sets.specs.PowerControls.{read_controls, set_controls, wanted_controls}
use Rattle.control_sets.specs.PowerProgress.{PatientPower, change_after, judged_power, moved_to, operation_at, power_wants, stage_judged, wants_by}
use Rattle.control_sets.specs.Progress.{PatientProcedure, hand, task_at, tasks_of}
use Rattle.control_sets.specs.Progress as progress
use Rattle.control_sets.specs.Tasks.{activation, provisioning}
use Rattle.module_reading.specs.declared.halves.Halves.{Halves}
use Rattle.paged_memory.specs.Images.{Memory}
use Rattle.paged_memory.specs.declared.page_addressing.KnownPage.{KnownPage}
use Rattle.paged_memory.specs.declared.page_addressing.PageAddressing.TheVariants.{BankAndPage}
use Rattle.paged_memory.specs.KnownPages.{wanted as page_first}
use Rattle.port_manager.specs.declared.deciding.Decision.{Decision}
use Rattle.port_manager.specs.declared.deciding.Decision.TheVariants.{Leave, Wake, Sleep, Hold, Activate, Provision}
use Rattle.port_manager.specs.declared.deciding.Goal.{Goal}
use Rattle.port_manager.specs.declared.deciding.Wanted.{Wanted}
use Rattle.port_manager.specs.declared.job.Job.{Job}
use Rattle.port_manager.specs.declared.job.Job.TheVariants as jobs
use Rattle.port_manager.specs.declared.turn.Note.TheVariants as note
use Rattle.port_manager.specs.declared.turn.ProcedureFault.{ProcedureFault}
use Rattle.port_manager.specs.Decisions.{IsDecisionAwake, IsDecisionFor}
use Rattle.port_manager.specs.declared.look.Look.{Look}
use Rattle.port_manager.specs.Jobs.{activating, asked, confirming, look_after, look_wants, looking, paged_look, paged_tasks, procedure_after, procedure_wants, reading_after, waking_after, watching}
use Rattle.port_manager.specs.Patients.{Patient, after_on, wants_on}
use Rattle.port_manager.specs.Standing.{IsWatching}
use Rattle.port_manager.specs.Turns.{Turn, fault_in}
use Rattle.port_manager.specs.Turns as turns
use Rattle.port_manager.specs.Turns.{GoesTo, IsTurnOf, activated, decided, going, provisioned, seen}
use Rattle.port_manager.proofs.LeftLaws.{left_of_power, left_of_tasks, left_of_waking, near_waking, tasks_counted}
use Rattle.port_manager.proofs.PageProgress.{near_patient}
use Rattle.port_manager.proofs.PatientLaws.{asked_within, kept_within, never_waits, paged_never, pausing_ends, within_ends}
use Rattle.port_manager.proofs.TurnCases.{Follows, IsAnyTurn, later, look_never, pause_of, tasks_never, turn_all}
use Rattle.port_manager.proofs.TurnProgress.{left}
use Rattle.sim_module.specs.declared.module.SimModule.{SimModule}
use Rattle.managed_module.specs.Bounds.{IsSteady, until_activated}
use Rattle.managed_module.specs.Managed.{HasHalves, IsCmisJob}
use Rattle.managed_module.proofs.FirstLooks.{IsConfirming, confirming_ends, confirming_goes_on}
use Rattle.managed_module.proofs.GoalLanes.{IsJudgedWhole, decided_whole}
use Rattle.managed_module.proofs.JobSteps.{GoesOn, IsIdle, IsWhole, JobAt, Wakes, job_goes_on, reading_waits}
use Rattle.managed_module.proofs.Links.{not_refused, takes_reply}
use Rattle.managed_module.proofs.OwnTasks.{module_after, reply_of}
use Rattle.managed_module.proofs.Procedures.{Activates, ComeUp, Provisions, Unless}
use Rattle.managed_module.proofs.Waits.{LinkedJob, look_nearer, power_a0, procedure_idles, reading_nearer}

-- ---- it comes nearer to its end, or nothing came of the operation

abbrev Nearer : Job → Op → Reply → Type 0
Nearer job op reply = (left (later job reply) + 1 ≤ left job) ⊎ (IsIdle job op reply × (left (later job reply) ≤ left job + 2))

abbrev pub change_of : Power → PowerStage → Option ProvisionFault → PowerChange
change_of power at fault = record { power = power; stage = at; fault = fault }

stored_nearer : (power : Power) (judged : ReplyJudgement) → (left_of_power (moved_to (change_of power stage.Stored None) (stage_judged judged)) + 1 ≤ 1) ⊎ (moved_to (change_of power stage.Stored None) (stage_judged judged) ≡ change_of power stage.Stored None)
stored_nearer power Met = inl (omega arith)
stored_nearer power NotYet = inr refl
stored_nearer power (Fails fault) = inl (omega arith)

-- a change of power comes nearer, or the state that was read isn't yet the one that is awaited
pub change_nearer : (power : Power) (at : PowerStage) (fault : Option ProvisionFault) (op : Op) (reply : Reply) → wants_by fault (operation_at power at) ≡ Do op → Answers op reply → (reply ≡ Refused → ⊥)
    → (left_of_power (change_after (change_of power at fault) reply) + 1 ≤ left_of_power (change_of power at fault)) ⊎ ((at ≡ stage.Stored) × (change_after (change_of power at fault) reply ≡ change_of power at fault))
change_nearer p at (Some fault) op reply wants answers answered = absurd cc
change_nearer p stage.Met None op reply wants answers answered = absurd cc
change_nearer p stage.Unread None op (Bytes bytes) wants answers answered = inl (omega arith)
change_nearer p stage.Unread None op Done wants answers answered = let same : op ≡ read_controls = cc in absurd (subst (λ (o : Op). Answers o Done) same answers)
change_nearer p stage.Unread None op Refused wants answers answered = absurd (answered refl)
change_nearer p (stage.Found byte) None op (Bytes bytes) wants answers answered = let same : op ≡ set_controls (wanted_controls p byte) = cc in absurd (subst (λ (o : Op). Answers o (Bytes bytes)) same answers)
change_nearer p (stage.Found byte) None op Done wants answers answered = inl (omega arith)
change_nearer p (stage.Found byte) None op Refused wants answers answered = absurd (answered refl)
change_nearer p stage.Stored None op (Bytes bytes) wants answers answered = by (stored_nearer p (judged_power p (module_code bytes.items))) where
  by : (left_of_power (moved_to (change_of p stage.Stored None) (stage_judged (judged_power p (module_code bytes.items)))) + 1 ≤ 1) ⊎ (moved_to (change_of p stage.Stored None) (stage_judged (judged_power p (module_code bytes.items))) ≡ change_of p stage.Stored None)
      → (left_of_power (change_after (change_of p stage.Stored None) (Bytes bytes)) + 1 ≤ 1) ⊎ ((stage.Stored ≡ stage.Stored) × (change_after (change_of p stage.Stored None) (Bytes bytes) ≡ change_of p stage.Stored None))
  by (inl nearer) = inl nearer
  by (inr same) = inr (refl, same)
change_nearer p stage.Stored None op Done wants answers answered = inr (refl, refl)
change_nearer p stage.Stored None op Refused wants answers answered = absurd (answered refl)

plus : (more before n : ℕ) (P Q : Type 0) → (more + 1 ≤ before) ⊎ P → Q → (more + n + 1 ≤ before + n) ⊎ (P × Q)
plus more before n P Q (inl nearer) q = inl (omega (arith, nearer))
plus more before n P Q (inr p) q = inr (p, q)

job_nearer : (most : ℕ) (sim : SimModule) (job : Job) (op next : Op) (reply : Reply) (less : ℕ) → JobAt most job sim less → HasHalves sim → IsCmisJob job → LinkedJob job sim → ¬ (IsWatching job) → asked job ≡ Some op → Answers op reply → reply ≡ reply_of sim op → asked (later job reply) ≡ Some next
    → Nearer job op reply
job_nearer most sim (jobs.Reading job true) op next reply less at has cmis link stays asks answers gives goes = inl (reading_nearer sim has job op reply asks answers gives cmis link)
job_nearer most sim (jobs.Reading job false) op next reply less at has cmis link stays asks answers gives goes = inl (omega (arith, reading_nearer sim has job op reply asks answers gives cmis link))
job_nearer most sim (jobs.Waking job) op next reply less at has cmis link stays asks answers gives goes =
    let change = job.conversation.conversation in
    let wants = asked_within power_wants job op asks in
    let answered : reply ≡ Refused → ⊥ = λ is. not_refused sim op has (power_a0 change.power change.stage change.fault op wants) (sym gives ∙ is) in
    let far = (near_waking job op next reply asks answers goes).1 in
    let same : left_of_waking (waking_after job reply) ≡ left_of_power (change_after change reply) =
    kept_within (λ after. left_of_power after ≡ left_of_power (change_after change reply)) power_wants change_after job reply refl in
    by change far same (change_nearer change.power change.stage change.fault op reply wants answers answered) where
      by : (change : PowerChange) → left_of_waking (waking_after job reply) ≤ left_of_waking job + 2 → left_of_waking (waking_after job reply) ≡ left_of_power (change_after job.conversation.conversation reply)
          → (left_of_power (change_after job.conversation.conversation reply) + 1 ≤ left_of_power job.conversation.conversation)
          ⊎ ((job.conversation.conversation.stage ≡ stage.Stored) × (change_after job.conversation.conversation reply ≡ job.conversation.conversation)) → Nearer (jobs.Waking job) op reply
      by change far same (inl nearer) = inl (omega (arith, nearer, same))
      by change far same (inr idle) = inr (idle, omega (arith, far))
job_nearer most sim (jobs.Sleeping job) op next reply less at has cmis link stays asks answers gives goes = absurd at
job_nearer most sim (jobs.Provisioning job goal) op next reply less at has cmis link stays asks answers gives goes =
    let far = (near_patient paged_tasks left_of_tasks tasks_counted job op next reply asks answers goes).1 in
    plus _ _ 14 (IsIdle (jobs.Provisioning job goal) op reply) (left (later (jobs.Provisioning job goal) reply) ≤ left (jobs.Provisioning job goal) + 2) (procedure_idles sim has job op reply asks answers gives link) (omega (arith, far))
job_nearer most sim (jobs.Activating job goal) op next reply less at has cmis link stays asks answers gives goes =
    let far = (near_patient paged_tasks left_of_tasks tasks_counted job op next reply asks answers goes).1 in
    plus _ _ 4 (IsIdle (jobs.Activating job goal) op reply) (left (later (jobs.Activating job goal) reply) ≤ left (jobs.Activating job goal) + 2) (procedure_idles sim has job op reply asks answers gives link) (omega (arith, far))
job_nearer most sim (jobs.Confirming job) op next reply less at has cmis link stays asks answers gives goes = inl (look_nearer sim has job op reply asks answers gives link)
job_nearer most sim (jobs.Watching job) op next reply less at has cmis link stays asks answers gives goes = absurd (stays tt)

-- ---- provisioning has ended

no_fault : (end : Option (Timed (Option ProvisionFault))) → fault_in end ≡ None → end ≡ Some (InTime None)
no_fault None e = absurd cc
no_fault (Some Overdue) e = absurd cc
no_fault (Some (InTime None)) e = refl
no_fault (Some (InTime (Some because))) e = absurd cc

list_ends : (found : Option ProvisionFault) (in_hand : Option Task) → progress.wants_by found in_hand ≡ End None → (found ≡ None) × (in_hand ≡ None)
list_ends found (Some task) e = absurd cc
list_ends None None e = (refl, refl)
list_ends (Some because) None e = absurd cc

-- what a list wants, where that is on its page already
list_end : (selected : KnownPage) (needed : Option ℕ) (own wanted : Next (Option ProvisionFault)) (end : Option ProvisionFault) → own ≡ wanted → next_on BankAndPage selected needed own ≡ End end → own ≡ End end
list_end selected needed own (Do op) end is e = absurd (let wrong : Do (page_first BankAndPage selected needed op) ≡ End end = sym (ap (next_on BankAndPage selected needed) is) ∙ e in cc)
list_end selected needed own (Wait time) end is e = absurd (let wrong : Wait time ≡ End end = sym (ap (next_on BankAndPage selected needed) is) ∙ e in cc)
list_end selected needed own (End other) end is e = is ∙ sym (ap (next_on BankAndPage selected needed) is) ∙ e

-- the list has ended in time
pub procedure_ended : (job : PatientProcedure) (spent : Spent (Timed (Option ProvisionFault))) (end : Option ProvisionFault) → procedure_wants job ≡ End spent → spent.end ≡ Some (InTime end) → progress.wants job.conversation.conversation.conversation ≡ End end
procedure_ended job spent end e in_time =
    let on = job.conversation.conversation in
    let list = on.conversation in
    let pausing = within_ends job.steps job.limit (next_pausing job.conversation.due job.conversation.idle job.conversation.patience (wants_on paged_tasks on)) spent (InTime end) e in_time in
    let paged : wants_on paged_tasks on ≡ End end = pausing_ends job.conversation.due job.conversation.idle job.conversation.patience (wants_on paged_tasks on) end pausing in
    list_end on.selection (progress.page_by (hand list)) (progress.wants list) (progress.wants list) end refl paged

-- without a fault
pub procedure_ends : (job : PatientProcedure) (spent : Spent (Timed (Option ProvisionFault))) → procedure_wants job ≡ End spent → fault_in spent.end ≡ None
    → (job.conversation.conversation.conversation.fault ≡ None) × (slice_get (tasks_of job.conversation.conversation.conversation.work) job.conversation.conversation.conversation.met ≡ None)
procedure_ends job spent e none =
    let list = job.conversation.conversation.conversation in
    let ends = list_ends list.fault (hand list) (procedure_ended job spent None e (no_fault spent.end none)) in
    (ends.0, ap (λ (found : Option ProvisionFault). task_at (tasks_of list.work) list.met found) (sym ends.0) ∙ ends.1)

-- so no apply is in progress
provisioned_steady : (most : ℕ) (control : List ℕ) (lanes : Lanes) (met : ℕ) (sim : SimModule) (less : ℕ) → slice_get (provisioning control lanes) met ≡ None → Provisions most lanes met sim less → IsSteady most sim × (until_activated most ≤ less)
provisioned_steady most control lanes zero sim less e p = absurd cc
provisioned_steady most control lanes (suc zero) sim less e p = absurd cc
provisioned_steady most control lanes (suc (suc zero)) sim less e p = absurd cc
provisioned_steady most control lanes (suc (suc (suc zero))) sim less e p = absurd cc
provisioned_steady most control lanes (suc (suc (suc (suc zero)))) sim less e p = absurd cc
provisioned_steady most control lanes (suc (suc (suc (suc (suc zero))))) sim less e p = absurd cc
provisioned_steady most control lanes (suc (suc (suc (suc (suc (suc zero)))))) sim less e p = absurd cc
provisioned_steady most control lanes (suc (suc (suc (suc (suc (suc (suc met))))))) sim less e p = p

-- so its lanes are up
activated_up : (most : ℕ) (control : List ℕ) (lanes : Lanes) (met : ℕ) (sim : SimModule) (less : ℕ) → slice_get (activation control lanes) met ≡ None → Activates most control lanes met sim less → ComeUp most control lanes 0 sim
activated_up most control lanes zero sim less e p = absurd cc
activated_up most control lanes (suc zero) sim less e p = absurd cc
activated_up most control lanes (suc (suc zero)) sim less e p = absurd cc
activated_up most control lanes (suc (suc (suc zero))) sim less e p = absurd cc
activated_up most control lanes (suc (suc (suc (suc met)))) sim less e up = up

-- ---- turns

-- the next job, with what is left to be waited for: at most what was; after a pause less is left altogether
abbrev pub Leads : ℕ → ℕ → ℕ → SimModule → Turn → Type 0
Leads most done budget after (turns.On job note) = (less : ℕ) × JobAt most job after less × (less ≤ budget)
Leads most done budget after (turns.Paused job time) = (less : ℕ) × JobAt most job after less × (left job + 3 * less + 1 ≤ done + 3 * budget)
Leads most done budget after (turns.Failed fault) = Unit {0}
Leads most done budget after (turns.Left reason) = Unit {0}

going_leads : (most done budget : ℕ) (after : SimModule) (pause : Option ℕ) (job : Job) (less : ℕ) → JobAt most job after less → less ≤ budget → (left job + 1 ≤ done) ⊎ ((less + 1 ≤ budget) × (left job ≤ done + 2)) → Leads most done budget after (going pause job)
going_leads most done budget after None job less at fewer either = (less, at, fewer)
going_leads most done budget after (Some time) job less at fewer (inl nearer) = (less, at, omega (arith, nearer, fewer))
going_leads most done budget after (Some time) job less at fewer (inr (idle, far)) = (less, at, omega (arith, idle, far))

later_leads : (most budget : ℕ) (sim : SimModule) (job : Job) (op next : Op) (reply : Reply) → HasHalves sim → IsCmisJob job → LinkedJob job sim → ¬ (IsWatching job) → JobAt most job sim budget → asked job ≡ Some op → Answers op reply → reply ≡ reply_of sim op
    → asked (later job reply) ≡ Some next → Leads most (left job) budget (module_after sim op) (going (pause_of job reply) (later job reply))
later_leads most budget sim job op next reply has cmis link stays at asks answers gives goes =
    let on = job_goes_on most sim job op reply budget has cmis link at asks answers gives in
    going_leads most (left job) budget (module_after sim op) (pause_of job reply) (later job reply) on.less on.at on.fewer
    (either on.less on.waits (job_nearer most sim job op next reply budget at has cmis link stays asks answers gives goes)) where
      either : (less : ℕ) → (IsIdle job op reply → less + 1 ≤ budget) → (left (later job reply) + 1 ≤ left job) ⊎ (IsIdle job op reply × (left (later job reply) ≤ left job + 2))
          → (left (later job reply) + 1 ≤ left job) ⊎ ((less + 1 ≤ budget) × (left (later job reply) ≤ left job + 2))
      either less waits (inl nearer) = inl nearer
      either less waits (inr (idle, far)) = inr (waits idle, far)

-- ---- what follows a job

reads_few : (most : ℕ) (woken : Bool) (less : ℕ) → reading_waits most woken ≤ less → reading_waits most true ≤ less
reads_few most true less few = few
reads_few most false less few = omega (arith, few)

pub activating_at : (most : ℕ) (goal : Goal) (patience : Patience) (after : SimModule) (less : ℕ) → IsWhole goal → IsSteady most after → until_activated most ≤ less → JobAt most (activating goal patience) after less
activating_at most goal patience after less whole steady few = (refl, whole, steady.counters, (λ page e. absurd cc), (steady, few))

pub confirming_at : (most : ℕ) (goal : Goal) (patience : Patience) (after : SimModule) → IsWhole goal → ComeUp most goal.control goal.lanes 0 after → IsConfirming most (looking goal patience) after
confirming_at most goal patience after whole up = record { goal = goal; patience = patience; made = 0; is = refl; used = whole.used; up = up; mapped = tt }

no_reading : (job : Patient (OnPage Halves)) (woken : Bool) (goal : Goal) (work : PatientProcedure) → (jobs.Reading job woken ≡ jobs.Provisioning work goal) ⊎ (jobs.Reading job woken ≡ jobs.Activating work goal) → ⊥
no_reading job woken goal work (inl e) = cc
no_reading job woken goal work (inr e) = cc

no_waking : (job : PatientPower) (goal : Goal) (work : PatientProcedure) → (jobs.Waking job ≡ jobs.Provisioning work goal) ⊎ (jobs.Waking job ≡ jobs.Activating work goal) → ⊥
no_waking job goal work (inl e) = cc
no_waking job goal work (inr e) = cc

no_look : (job : Patient (OnPage Look)) (goal : Goal) (work : PatientProcedure) → (jobs.Confirming job ≡ jobs.Provisioning work goal) ⊎ (jobs.Confirming job ≡ jobs.Activating work goal) → ⊥
no_look job goal work (inl e) = cc
no_look job goal work (inr e) = cc

decided_leads : (most done budget : ℕ) (after : SimModule) (woken requested : Bool) (patience : Patience) (decision : Decision) → IsJudgedWhole decision → (less : ℕ) → IsSteady most after → reading_waits most woken ≤ less → less ≤ budget
    → Leads most done budget after (decided woken requested patience decision)
decided_leads most done budget after woken requested patience (Leave reason) judged less steady few fewer = tt
decided_leads most done budget after true requested patience Wake judged less steady few fewer = tt
decided_leads most done budget after false requested patience Wake judged less steady few fewer = (less, (refl, steady, few), fewer)
decided_leads most done budget after woken requested patience Sleep judged less steady few fewer = absurd (let wrong : true ≡ false = judged.awake in cc)
decided_leads most done budget after woken requested patience (Hold goal) judged less steady few fewer = (less, tt, fewer)
decided_leads most done budget after woken requested patience (Activate goal) judged less steady few fewer =
    (less, activating_at most goal patience after less (judged.whole goal refl) steady (omega (arith, reads_few most woken less few)), fewer)
decided_leads most done budget after woken requested patience (Provision goal) judged less steady few fewer =
    (less, (refl, judged.whole goal refl, steady.counters, (λ page e. absurd cc), (steady, reads_few most woken less few)), fewer)

pub woken_few : (most : ℕ) (at : PowerStage) (sim : SimModule) (less : ℕ) → Wakes most at sim less → reading_waits most true ≤ less
woken_few most stage.Unread sim less w = omega (arith, w)
woken_few most (stage.Found byte) sim less w = omega (arith, w)
woken_few most stage.Stored sim less (awake, (ticks, near, few)) = omega (arith, few)
woken_few most stage.Met sim less w = w

pub is_awake : (wanted : Wanted) (decision : Decision) (image : Memory) (asleep : Bool) → asleep ≡ false → IsDecisionFor asleep wanted image decision → IsDecisionAwake wanted image decision
is_awake wanted decision image true e is = absurd cc
is_awake wanted decision image false e is = is

activated_leads : (most done budget : ℕ) (after : SimModule) (goal : Goal) (patience : Patience) (because : Option ProcedureFault) → (because ≡ None → Leads most done budget after (turns.On (confirming goal patience) note.Quiet)) → Leads most done budget after (activated goal patience because)
activated_leads most done budget after goal patience None leads = leads refl
activated_leads most done budget after goal patience (Some because) leads = tt

provisioned_leads : (most done budget : ℕ) (after : SimModule) (goal : Goal) (patience : Patience) (because : Option ProcedureFault) → (because ≡ None → Leads most done budget after (turns.On (activating goal patience) note.Provisioned)) → Leads most done budget after (provisioned goal patience because)
provisioned_leads most done budget after goal patience None leads = leads refl
provisioned_leads most done budget after goal patience (Some because) leads = tt

pub ends_or_goes : {E : Type 0} (next : Next (Spent E)) (pause : Option ℕ) (job : Job) (Ended : Option E → Turn → Type 0) (turn : Turn) (Q : Turn → Type 0) → GoesTo next pause job Ended turn
    → ((op : Op) → next ≡ Do op → Q (going pause job)) → ((time : ℕ) → next ≡ Wait time → ⊥) → ((spent : Spent E) → next ≡ End spent → Ended spent.end turn → Q turn) → Q turn
ends_or_goes (Do op) pause job Ended turn Q is does waits ends = subst Q (sym is) (does op refl)
ends_or_goes (Wait time) pause job Ended turn Q is does waits ends = absurd (waits time refl)
ends_or_goes (End spent) pause job Ended turn Q is does waits ends = ends spent refl is

-- the first look goes on, or has found the goal up
pub confirmed : (most : ℕ) (sim : SimModule) → HasHalves sim → (wanted : Wanted) (job : Patient (OnPage Look)) (op : Op) (reply : Reply) (turn : Turn) → IsConfirming most job sim → asked (jobs.Confirming job) ≡ Some op → reply ≡ reply_of sim op
    → IsTurnOf wanted (jobs.Confirming job) reply turn → (Q : Turn → Type 0) → ((goal : Goal) (patience : Patience) → Q (turns.On (watching goal patience) note.CameUp))
    → Q (going (pause_of (jobs.Confirming job) reply) (jobs.Confirming (look_after job reply))) → Q turn
confirmed most sim has wanted job op reply turn at asks gives is Q up goes =
    let next = look_after job reply in
    let goal = next.conversation.conversation.conversation.goal in
    let now = confirming_goes_on most job sim op reply has at asks gives in
    ends_or_goes (look_wants next) (pause_of (jobs.Confirming job) reply) (jobs.Confirming next) (λ end turn. turn ≡ seen goal next.conversation.patience note.CameUp end) turn Q is
    (λ op e. goes)
    (λ time e. never_waits (wants_on paged_look) (after_on paged_look) job reply time (paged_never paged_look look_never) e)
    (λ spent e ended. subst Q (sym (ended ∙ ap (seen goal next.conversation.patience note.CameUp) (confirming_ends most next (module_after sim op) spent now e))) (up goal next.conversation.patience))

module _ (most budget : ℕ) (sim : SimModule) (op : Op) (reply : Reply) (has : HasHalves sim) (answers : Answers op reply) (gives : reply ≡ reply_of sim op) where
  abbrev after : SimModule
  after = module_after sim op

  -- what follows, of all jobs but provisioning and activation
  follows_leads : (wanted : Wanted) (job : Job) → wanted.asleep ≡ false → ((goal : Goal) (work : PatientProcedure) → (job ≡ jobs.Provisioning work goal) ⊎ (job ≡ jobs.Activating work goal) → ⊥) → GoesOn most job op reply after budget → Follows (Leads most (left job) budget after) wanted job reply
  follows_leads wanted (jobs.Reading job woken) awake not on = λ decision whole judged.
      let image = (reading_after job reply).conversation.conversation.conversation.image in
      decided_leads most (left (jobs.Reading job woken)) budget after woken _ (patience_for image) decision (decided_whole wanted image decision (is_awake wanted decision image wanted.asleep awake judged)) on.less on.at.0 on.at.1 on.fewer
  follows_leads wanted (jobs.Waking job) awake not on =
      (on.less, (on.at.1, woken_few most (waking_after job reply).conversation.conversation.stage after on.less on.at.2), on.fewer)
  follows_leads wanted (jobs.Sleeping job) awake not on = tt
  follows_leads wanted (jobs.Provisioning job goal) awake not on = absurd (not goal job (inl refl))
  follows_leads wanted (jobs.Activating job goal) awake not on = absurd (not goal job (inr refl))
  follows_leads wanted (jobs.Confirming job) awake not on = (on.less, tt, on.fewer)
  follows_leads wanted (jobs.Watching job) awake not on = (on.less, tt, on.fewer)

  -- provisioning has ended without a fault
  pub provisioning_ended : (job : PatientProcedure) (goal : Goal) (spent : Spent (Timed (Option ProvisionFault))) → GoesOn most (jobs.Provisioning job goal) op reply after budget → procedure_wants (procedure_after job reply) ≡ End spent → fault_in spent.end ≡ None
      → Leads most (left (jobs.Provisioning job goal)) budget after (turns.On (activating goal (procedure_after job reply).conversation.patience) note.Provisioned)
  provisioning_ended job goal spent on e none =
      let list = (procedure_after job reply).conversation.conversation.conversation in
      let ended = procedure_ends (procedure_after job reply) spent e none in
      let p : Provisions most goal.outside list.met after on.less = subst (λ (found : Option ProvisionFault). Unless found (Provisions most goal.outside list.met after on.less)) ended.0 on.at.4 in
      let steady = provisioned_steady most goal.control goal.outside list.met after on.less (ap (λ (work : Work). slice_get (tasks_of work) list.met) (sym on.at.0) ∙ ended.1) p in
      (on.less, activating_at most goal (procedure_after job reply).conversation.patience after on.less on.at.1 steady.0 steady.1, on.fewer)

  -- activation has: its lanes are up
  pub activating_ended : (job : PatientProcedure) (goal : Goal) (spent : Spent (Timed (Option ProvisionFault))) → GoesOn most (jobs.Activating job goal) op reply after budget → procedure_wants (procedure_after job reply) ≡ End spent → fault_in spent.end ≡ None
      → Leads most (left (jobs.Activating job goal)) budget after (turns.On (confirming goal (procedure_after job reply).conversation.patience) note.Quiet)
  activating_ended job goal spent on e none =
      let list = (procedure_after job reply).conversation.conversation.conversation in
      let ended = procedure_ends (procedure_after job reply) spent e none in
      let p : Activates most goal.control goal.lanes list.met after on.less = subst (λ (found : Option ProvisionFault). Unless found (Activates most goal.control goal.lanes list.met after on.less)) ended.0 on.at.4 in
      let up = activated_up most goal.control goal.lanes list.met after on.less (ap (λ (work : Work). slice_get (tasks_of work) list.met) (sym on.at.0) ∙ ended.1) p in
      (on.less, confirming_at most goal (procedure_after job reply).conversation.patience after on.at.1 up, on.fewer)

  turn_by : (wanted : Wanted) (job : Job) (turn : Turn) → wanted.asleep ≡ false → IsCmisJob job → LinkedJob job sim → ¬ (IsWatching job) → JobAt most job sim budget → asked job ≡ Some op → ((goal : Goal) (work : PatientProcedure) → (job ≡ jobs.Provisioning work goal) ⊎ (job ≡ jobs.Activating work goal) → ⊥)
      → IsAnyTurn wanted job reply turn → Leads most (left job) budget after turn
  turn_by wanted job turn awake cmis link stays at asks not is =
      turn_all (Leads most (left job) budget after) (λ why. tt) wanted job reply turn
      (λ next e. later_leads most budget sim job op next reply has cmis link stays at asks answers gives e)
      (follows_leads wanted job awake not (job_goes_on most sim job op reply budget has cmis link at asks answers gives)) is

  pub turn_leads : (wanted : Wanted) (job : Job) (turn : Turn) → wanted.asleep ≡ false → IsCmisJob job → LinkedJob job sim → ¬ (IsWatching job) → JobAt most job sim budget → asked job ≡ Some op → IsAnyTurn wanted job reply turn → Leads most (left job) budget after turn
  turn_leads wanted (jobs.Provisioning job goal) turn awake cmis link stays at asks is =
      let on = job_goes_on most sim (jobs.Provisioning job goal) op reply budget has cmis link at asks answers gives in
      let next = procedure_after job reply in
      ends_or_goes (procedure_wants next) (pause_of (jobs.Provisioning job goal) reply) (jobs.Provisioning next goal) (λ end turn. turn ≡ provisioned goal next.conversation.patience (fault_in end)) turn (Leads most (left (jobs.Provisioning job goal)) budget after)
      (takes_reply sim op reply wanted (jobs.Provisioning job goal) turn has gives asks is)
      (λ asked_next e. later_leads most budget sim (jobs.Provisioning job goal) op asked_next reply has cmis link stays at asks answers gives (ap op_of e))
      (λ time e. never_waits (wants_on paged_tasks) (after_on paged_tasks) job reply time (paged_never paged_tasks tasks_never) e)
      (λ spent e ended. subst (Leads most (left (jobs.Provisioning job goal)) budget after) (sym ended)
      (provisioned_leads most (left (jobs.Provisioning job goal)) budget after goal next.conversation.patience (fault_in spent.end) (λ none. provisioning_ended job goal spent on e none)))
  turn_leads wanted (jobs.Reading job woken) turn awake cmis link stays at asks is = turn_by wanted (jobs.Reading job woken) turn awake cmis link stays at asks (λ goal work e. no_reading job woken goal work e) is
  turn_leads wanted (jobs.Waking job) turn awake cmis link stays at asks is = turn_by wanted (jobs.Waking job) turn awake cmis link stays at asks (λ goal work e. no_waking job goal work e) is
  turn_leads wanted (jobs.Sleeping job) turn awake cmis link stays at asks is = absurd at
  turn_leads wanted (jobs.Activating job goal) turn awake cmis link stays at asks is =
      let on = job_goes_on most sim (jobs.Activating job goal) op reply budget has cmis link at asks answers gives in
      let next = procedure_after job reply in
      ends_or_goes (procedure_wants next) (pause_of (jobs.Activating job goal) reply) (jobs.Activating next goal) (λ end turn. turn ≡ activated goal next.conversation.patience (fault_in end)) turn (Leads most (left (jobs.Activating job goal)) budget after)
      (takes_reply sim op reply wanted (jobs.Activating job goal) turn has gives asks is)
      (λ asked_next e. later_leads most budget sim (jobs.Activating job goal) op asked_next reply has cmis link stays at asks answers gives (ap op_of e))
      (λ time e. never_waits (wants_on paged_tasks) (after_on paged_tasks) job reply time (paged_never paged_tasks tasks_never) e)
      (λ spent e ended. subst (Leads most (left (jobs.Activating job goal)) budget after) (sym ended)
      (activated_leads most (left (jobs.Activating job goal)) budget after goal next.conversation.patience (fault_in spent.end) (λ none. activating_ended job goal spent on e none)))
  turn_leads wanted (jobs.Confirming job) turn awake cmis link stays at asks is = turn_by wanted (jobs.Confirming job) turn awake cmis link stays at asks (λ goal work e. no_look job goal work e) is
  turn_leads wanted (jobs.Watching job) turn awake cmis link stays at asks is = absurd (stays tt)
