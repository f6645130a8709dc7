-- What holds of each turn holds if it holds of the job that goes on, and of what comes after each job.
use Rattle.std.proofs.Common.{◌≡◌, ℕ, Bool, true, false, Option, Some, None, refl, sym, ap, subst}
use Rattle.std.specs.Prelude.{not, ◌&&◌}
use Rattle.bus_model.specs.declared.operation.Op.{Op}
use Rattle.bus_model.specs.declared.operation.Reply.{Reply}
use Rattle.conversations.specs.declared.next.Next.{Next}
use Rattle.conversations.specs.declared.next.Next.TheVariants.{Do, Wait, End}
use Rattle.conversations.specs.declared.on_page.OnPage.{OnPage}
use Rattle.conversations.specs.declared.pausing.Timed.{Timed}
use Rattle.conversations.specs.declared.pausing.Timed.TheVariants.{InTime, Overdue}
use Rattle.conversations.specs.declared.within.Spent.{Spent}
use Rattle.conversations.specs.Wanted.{op_of}
use Rattle.control_sets.specs.declared.fault.ProvisionFault.{ProvisionFault}
use Rattle.control_sets.specs.declared.procedures.task.Task.{Task}
use Rattle.control_sets.specs.declared.procedures.power.PowerStage.{PowerStage}
use Rattle.control_sets.specs.Durations.{patience_for}
use Rattle.control_sets.specs.PowerProgress.{change_after, operation_at, power_wants}
use Rattle.control_sets.specs.PowerProgress as power
use Rattle.control_sets.specs.Progress.{hand}
use Rattle.control_sets.specs.Progress as tasks
use Rattle.module_reading.specs.declared.halves.Halves.{Halves}
use Rattle.module_reading.specs.declared.region.Region.{Region}
use Rattle.module_reading.specs.ImageReading as reader
use Rattle.port_manager.specs.declared.deciding.Decision.{Decision}
use Rattle.port_manager.specs.declared.deciding.Goal.{Goal}
use Rattle.port_manager.specs.declared.deciding.LeftBecause.TheVariants.{Asleep}
use Rattle.conversations.specs.declared.pausing.Patience.{Patience}
use Rattle.port_manager.specs.declared.deciding.Wanted.{Wanted}
use Rattle.port_manager.specs.declared.job.Job.{Job}
use Rattle.port_manager.specs.declared.job.Job.TheVariants.{Reading, Waking, Sleeping, Provisioning, Activating, Confirming, Watching}
use Rattle.port_manager.specs.declared.look.LookStage.{LookStage}
use Rattle.port_manager.specs.declared.look.LookStage.TheVariants as stages
use Rattle.port_manager.specs.declared.turn.Note.{Note}
use Rattle.port_manager.specs.declared.turn.Note.TheVariants as note
use Rattle.port_manager.specs.declared.turn.PortFault.{PortFault}
use Rattle.port_manager.specs.declared.turn.PortFault.TheVariants as fault
use Rattle.port_manager.specs.declared.turn.ProcedureFault.{ProcedureFault}
use Rattle.port_manager.specs.Turns.{Turn}
use Rattle.port_manager.specs.Turns.{On, Failed, Left}
use Rattle.port_manager.specs.Decisions.{IsDecision}
use Rattle.port_manager.specs.Jobs.{activating, asked, confirming, paged_halves, paged_look, look_after, look_wants, procedure_after, procedure_wants, reading, reading_after, reading_wants, paged_tasks, waking_after, waking_wants, watching}
use Rattle.port_manager.specs.Looks as looks
use Rattle.port_manager.specs.Patients.{Patient, after_on, pause_after, wants_on}
use Rattle.port_manager.specs.Readings.{IsWhole}
use Rattle.port_manager.specs.RefusedApplies.{is_refused_apply}
use Rattle.port_manager.specs.Turns.{GoesTo, IsRead, IsTurn, IsTurnOf, UnlessApplyRefused, activated, decided, fault_in, going, is_low_power_requested, provisioned, seen, slept, waking_fault, woken_up}
use Rattle.port_manager.proofs.PatientLaws.{NeverWaits, never_waits, paged_never}

-- ---- none waits by itself

halves_by : (found : Option Region) (time : ℕ) → reader.wants_by found ≡ Wait time → ⊥
halves_by None time e = absurd cc
halves_by (Some region) time e = absurd cc

pub halves_never : NeverWaits reader.wants
halves_never halves time e = halves_by (reader.in_hand halves) time e

tasks_by : (fault : Option ProvisionFault) (found : Option Task) (time : ℕ) → tasks.wants_by fault found ≡ Wait time → ⊥
tasks_by fault None time e = absurd cc
tasks_by fault (Some task) time e = absurd cc

pub tasks_never : NeverWaits tasks.wants
tasks_never list time e = tasks_by list.fault (hand list) time e

power_by : (fault : Option ProvisionFault) (op : Option Op) (time : ℕ) → power.wants_by fault op ≡ Wait time → ⊥
power_by None None time e = absurd cc
power_by None (Some op) time e = absurd cc
power_by (Some fault) op time e = absurd cc

pub power_never : NeverWaits power_wants
power_never change time e = power_by change.fault (operation_at change.power change.stage) time e

look_by : (stage : LookStage) (time : ℕ) → looks.wants_at stage ≡ Wait time → ⊥
look_by stages.Lower time e = absurd cc
look_by stages.Lanes time e = absurd cc
look_by (stages.Seen wanted) time e = absurd cc

pub look_never : NeverWaits looks.wants
look_never look time e = look_by look.stage time e

-- ---- the same job later

abbrev pub later : Job → Reply → Job
later (Reading job woken) reply = Reading (reading_after job reply) woken
later (Waking job) reply = Waking (waking_after job reply)
later (Sleeping job) reply = Sleeping (waking_after job reply)
later (Provisioning job goal) reply = Provisioning (procedure_after job reply) goal
later (Activating job goal) reply = Activating (procedure_after job reply) goal
later (Confirming job) reply = Confirming (look_after job reply)
later (Watching job) reply = Watching (look_after job reply)

abbrev pub pause_of : Job → Reply → Option ℕ
pause_of (Reading job woken) reply = pause_after (wants_on paged_halves) (after_on paged_halves) job reply
pause_of (Waking job) reply = pause_after power_wants change_after job reply
pause_of (Sleeping job) reply = pause_after power_wants change_after job reply
pause_of (Provisioning job goal) reply = pause_after (wants_on paged_tasks) (after_on paged_tasks) job reply
pause_of (Activating job goal) reply = pause_after (wants_on paged_tasks) (after_on paged_tasks) job reply
pause_of (Confirming job) reply = pause_after (wants_on paged_look) (after_on paged_look) job reply
pause_of (Watching job) reply = pause_after (wants_on paged_look) (after_on paged_look) job reply

-- whether an apply was refused before or not
abbrev pub IsAnyTurn : Wanted → Job → Reply → Turn → Type 0
IsAnyTurn wanted job reply turn = (apply_refused : Bool) × IsTurn apply_refused wanted job reply turn

-- it holds of what comes after the job
abbrev pub Follows : (Turn → Type 0) → Wanted → Job → Reply → Type 0
Follows Q wanted (Reading job woken) reply =
    let image = (reading_after job reply).conversation.conversation.conversation.image in
    (decision : Decision) → IsWhole (reading_wants (reading_after job reply)) → IsDecision wanted image decision → Q (decided woken (is_low_power_requested image) (patience_for image) decision)
Follows Q wanted (Waking job) reply = Q (On (reading true) note.Woken)
Follows Q wanted (Sleeping job) reply = Q (Left Asleep)
Follows Q wanted (Provisioning job goal) reply = Q (On (activating goal (procedure_after job reply).conversation.patience) note.Provisioned)
Follows Q wanted (Activating job goal) reply = Q (On (confirming goal (procedure_after job reply).conversation.patience) note.Quiet)
Follows Q wanted (Confirming job) reply =
    Q (On (watching (look_after job reply).conversation.conversation.conversation.goal (look_after job reply).conversation.patience) note.CameUp)
Follows Q wanted (Watching job) reply =
    Q (On (watching (look_after job reply).conversation.conversation.conversation.goal (look_after job reply).conversation.patience) note.Held)

pub goes : {E : Type 0} (next : Next (Spent E)) (pause : Option ℕ) (job : Job) (Ended : Option E → Turn → Type 0) (turn : Turn) (Q : Turn → Type 0) → GoesTo next pause job Ended turn
    → ((op : Op) → next ≡ Do op → Q (going pause job)) → ((time : ℕ) → next ≡ Wait time → ⊥) → ((spent : Spent E) → next ≡ End spent → Ended spent.end turn → Q turn) → Q turn
goes (Do op) pause job Ended turn Q is does waits ends = subst Q (sym is) (does op refl)
goes (Wait time) pause job Ended turn Q is does waits ends = absurd (waits time refl)
goes (End spent) pause job Ended turn Q is does waits ends = ends spent refl is

module _ (Q : Turn → Type 0) (failed : (why : PortFault) → Q (Failed why)) where
  after_waking : (stage : PowerStage) (because : Option ProcedureFault) → Q (On (reading true) note.Woken) → Q (woken_up stage because)
  after_waking stage None q = q
  after_waking stage (Some because) q = failed (waking_fault stage because)

  after_sleeping : (because : Option ProcedureFault) → Q (Left Asleep) → Q (slept because)
  after_sleeping None q = q
  after_sleeping (Some because) q = failed (fault.Sleeping because)

  after_provisioning : (goal : Goal) (patience : Patience) (because : Option ProcedureFault) → Q (On (activating goal patience) note.Provisioned) → Q (provisioned goal patience because)
  after_provisioning goal patience None q = q
  after_provisioning goal patience (Some because) q = failed (fault.Provisioning because)

  after_activating : (goal : Goal) (patience : Patience) (because : Option ProcedureFault) → Q (On (confirming goal patience) note.Quiet) → Q (activated goal patience because)
  after_activating goal patience None q = q
  after_activating goal patience (Some because) q = failed (fault.Activating because)

  after_look : (goal : Goal) (patience : Patience) (noted : Note) (end : Option (Timed Bool)) → Q (On (watching goal patience) noted) → Q (seen goal patience noted end)
  after_look goal patience noted None q = failed fault.Unseen
  after_look goal patience noted (Some Overdue) q = failed fault.Unseen
  after_look goal patience noted (Some (InTime true)) q = q
  after_look goal patience noted (Some (InTime false)) q = failed fault.Changed

  after_reading : (wanted : Wanted) (woken : Bool) (later : Patient (OnPage Halves)) (steps : ℕ) (end : Option (Timed (Unit {0}))) (turn : Turn)
      → ((decision : Decision) → IsWhole (reading_wants later) → IsDecision wanted later.conversation.conversation.conversation.image decision → Q (decided woken (is_low_power_requested later.conversation.conversation.conversation.image) (patience_for later.conversation.conversation.conversation.image) decision))
      → reading_wants later ≡ End (record { steps = steps; end = end }) → IsRead wanted woken later.conversation.conversation.conversation.image end turn → Q turn
  after_reading wanted woken later steps None turn q e is = subst Q (sym is) (failed fault.Unread)
  after_reading wanted woken later steps (Some Overdue) turn q e is = subst Q (sym is) (failed fault.Unread)
  after_reading wanted woken later steps (Some (InTime end)) turn q e (decision, judged, is) = subst Q (sym is) (q decision (steps, e) judged)

  taken_all : (wanted : Wanted) (job : Job) (reply : Reply) (turn : Turn) → ((op : Op) → asked (later job reply) ≡ Some op → Q (going (pause_of job reply) (later job reply)))
      → Follows Q wanted job reply → IsTurnOf wanted job reply turn → Q turn
  taken_all wanted (Reading job woken) reply turn goes_on follows is =
      let after = reading_after job reply in
      goes (reading_wants after) (pause_of (Reading job woken) reply) (Reading after woken) (λ end turn. IsRead wanted woken after.conversation.conversation.conversation.image end turn) turn Q is
      (λ op e. goes_on op (ap op_of e)) (λ time e. never_waits (wants_on paged_halves) (after_on paged_halves) job reply time (paged_never paged_halves halves_never) e)
      (λ spent e ended. after_reading wanted woken after spent.steps spent.end turn follows e ended)
  taken_all wanted (Waking job) reply turn goes_on follows is =
      let after = waking_after job reply in
      goes (waking_wants after) (pause_of (Waking job) reply) (Waking after) (λ end turn. turn ≡ woken_up after.conversation.conversation.stage (fault_in end)) turn Q is
      (λ op e. goes_on op (ap op_of e)) (λ time e. never_waits power_wants change_after job reply time power_never e)
      (λ spent e ended. subst Q (sym ended) (after_waking after.conversation.conversation.stage (fault_in spent.end) follows))
  taken_all wanted (Sleeping job) reply turn goes_on follows is =
      let after = waking_after job reply in
      goes (waking_wants after) (pause_of (Sleeping job) reply) (Sleeping after) (λ end turn. turn ≡ slept (fault_in end)) turn Q is
      (λ op e. goes_on op (ap op_of e)) (λ time e. never_waits power_wants change_after job reply time power_never e)
      (λ spent e ended. subst Q (sym ended) (after_sleeping (fault_in spent.end) follows))
  taken_all wanted (Provisioning job goal) reply turn goes_on follows is =
      let after = procedure_after job reply in
      goes (procedure_wants after) (pause_of (Provisioning job goal) reply) (Provisioning after goal) (λ end turn. turn ≡ provisioned goal after.conversation.patience (fault_in end)) turn Q is
      (λ op e. goes_on op (ap op_of e)) (λ time e. never_waits (wants_on paged_tasks) (after_on paged_tasks) job reply time (paged_never paged_tasks tasks_never) e)
      (λ spent e ended. subst Q (sym ended) (after_provisioning goal after.conversation.patience (fault_in spent.end) follows))
  taken_all wanted (Activating job goal) reply turn goes_on follows is =
      let after = procedure_after job reply in
      goes (procedure_wants after) (pause_of (Activating job goal) reply) (Activating after goal) (λ end turn. turn ≡ activated goal after.conversation.patience (fault_in end)) turn Q is
      (λ op e. goes_on op (ap op_of e)) (λ time e. never_waits (wants_on paged_tasks) (after_on paged_tasks) job reply time (paged_never paged_tasks tasks_never) e)
      (λ spent e ended. subst Q (sym ended) (after_activating goal after.conversation.patience (fault_in spent.end) follows))
  taken_all wanted (Confirming job) reply turn goes_on follows is =
      let after = look_after job reply in
      goes (look_wants after) (pause_of (Confirming job) reply) (Confirming after) (λ end turn. turn ≡ seen after.conversation.conversation.conversation.goal after.conversation.patience note.CameUp end) turn Q is
      (λ op e. goes_on op (ap op_of e)) (λ time e. never_waits (wants_on paged_look) (after_on paged_look) job reply time (paged_never paged_look look_never) e)
      (λ spent e ended. subst Q (sym ended) (after_look after.conversation.conversation.conversation.goal after.conversation.patience note.CameUp spent.end follows))
  taken_all wanted (Watching job) reply turn goes_on follows is =
      let after = look_after job reply in
      goes (look_wants after) (pause_of (Watching job) reply) (Watching after) (λ end turn. turn ≡ seen after.conversation.conversation.conversation.goal after.conversation.patience note.Held end) turn Q is
      (λ op e. goes_on op (ap op_of e)) (λ time e. never_waits (wants_on paged_look) (after_on paged_look) job reply time (paged_never paged_look look_never) e)
      (λ spent e ended. subst Q (sym ended) (after_look after.conversation.conversation.conversation.goal after.conversation.patience note.Held spent.end follows))

  unless_refused : (refused : Bool) (wanted : Wanted) (job : Job) (reply : Reply) (turn : Turn) → ((op : Op) → asked (later job reply) ≡ Some op → Q (going (pause_of job reply) (later job reply)))
      → Follows Q wanted job reply → UnlessApplyRefused refused (IsTurnOf wanted job reply) turn → Q turn
  unless_refused true wanted job reply turn goes_on follows is = subst Q (sym is) (failed fault.ApplyRefused)
  unless_refused false wanted job reply turn goes_on follows is = taken_all wanted job reply turn goes_on follows is

  pub turn_all : (wanted : Wanted) (job : Job) (reply : Reply) (turn : Turn) → ((op : Op) → asked (later job reply) ≡ Some op → Q (going (pause_of job reply) (later job reply)))
      → Follows Q wanted job reply → IsAnyTurn wanted job reply turn → Q turn
  turn_all wanted job reply turn goes_on follows (again, is) = unless_refused (not again && is_refused_apply (asked job) reply) wanted job reply turn goes_on follows is
