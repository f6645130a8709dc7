-- What the reply to the operation of a job leads to, exactly. (this project's own; OIF-CMIS-05.0: LowPwrAllowRequestHW and
-- LowPwrRequestSW of the lower memory)
use Rattle.std.specs.Prelude.{◌≡◌, ◌==◌, ℕ, Bool, true, false, not, ◌&&◌, ◌||◌, Option, Some, None}
use Rattle.bus_model.specs.declared.operation.Reply.{Reply}
use Rattle.conversations.specs.declared.next.Next.{Next}
use Rattle.conversations.specs.declared.next.Next.TheVariants.{Do, Wait, End}
use Rattle.conversations.specs.declared.on_page.OnPage.{OnPage}
use Rattle.conversations.specs.declared.pausing.Patience.{Patience}
use Rattle.conversations.specs.declared.pausing.Timed.{Timed}
use Rattle.conversations.specs.declared.pausing.Timed.TheVariants.{InTime, Overdue as Late}
use Rattle.conversations.specs.declared.within.Spent.{Spent}
use Rattle.field_tables.specs.declared.field.Field.TheVariants as fields
use Rattle.field_tables.specs.declared.table.cmis.CmisField.TheVariants as cmis
use Rattle.field_tables.specs.Readings.{number}
use Rattle.paged_memory.specs.Images.{Memory}
use Rattle.control_sets.specs.declared.fault.ProvisionFault.{ProvisionFault}
use Rattle.control_sets.specs.declared.fault.ProvisionFault.TheVariants.{GaveUp}
use Rattle.control_sets.specs.declared.procedures.power.PowerStage.{PowerStage}
use Rattle.control_sets.specs.declared.procedures.power.PowerStage.TheVariants.{Unread, Found, Stored, Met}
use Rattle.control_sets.specs.Durations.{patience_for}
use Rattle.control_sets.specs.PowerProgress.{PatientPower, change_after, power_wants}
use Rattle.control_sets.specs.Progress.{PatientProcedure}
use Rattle.port_manager.specs.declared.deciding.Decision.{Decision}
use Rattle.port_manager.specs.declared.deciding.Decision.TheVariants.{Leave, Wake, Sleep, Hold, Activate, Provision}
use Rattle.port_manager.specs.declared.deciding.Goal.{Goal}
use Rattle.port_manager.specs.declared.deciding.LeftBecause.TheVariants.{Asleep}
use Rattle.port_manager.specs.declared.deciding.Wanted.{Wanted}
use Rattle.port_manager.specs.declared.job.Job.{Job}
use Rattle.port_manager.specs.declared.job.Job.TheVariants.{Reading, Waking, Sleeping, Provisioning, Activating, Confirming, Watching}
use Rattle.port_manager.specs.declared.look.Look.{Look}
use Rattle.module_reading.specs.declared.halves.Halves.{Halves}
use Rattle.port_manager.specs.declared.deciding.LeftBecause.{LeftBecause}
use Rattle.port_manager.specs.declared.turn.Course.{Course}
use Rattle.port_manager.specs.declared.turn.Course.TheVariants as course
use Rattle.port_manager.specs.declared.turn.Note.{Note}
use Rattle.port_manager.specs.declared.turn.Note.TheVariants as note
use Rattle.port_manager.specs.declared.turn.PortFault.{PortFault}
use Rattle.port_manager.specs.declared.turn.PortFault.TheVariants as fault
use Rattle.port_manager.specs.declared.turn.ProcedureFault.{ProcedureFault}
use Rattle.port_manager.specs.declared.turn.ProcedureFault.TheVariants as why
use Rattle.port_manager.specs.Decisions.{IsDecision}
use Rattle.port_manager.specs.RefusedApplies.{is_refused_apply}
use Rattle.port_manager.specs.Jobs.{activating, asked, begun_by, confirming, paged_halves, paged_look, look_after, look_wants, procedure_after, procedure_wants, provisioning, sleeping, reading, reading_after, reading_wants, paged_tasks, waking, waking_after, waking_wants, watching}
use Rattle.port_manager.specs.Patients.{Patient, after_on, pause_after, wants_on}

pub data Turn : Type 0 where
  -- this job goes on, or is the next one
  On : Job → Note → Turn
  -- the operation was in vain: this job goes on after so many milliseconds
  Paused : Job → ℕ → Turn
  -- what was begun has failed
  Failed : PortFault → Turn
  -- the module is left alone
  Left : LeftBecause → Turn

-- what such a course is of a job that has taken the reply
abbrev pub turn_by : Job → Course → Turn
turn_by job course.On = On job note.Quiet
turn_by job (course.Paused time) = Paused job time
turn_by job (course.Next beginning what) = On (begun_by beginning) what
turn_by job (course.Failed why) = Failed why
turn_by job (course.Left reason) = Left reason

-- ---- a job goes on

-- after a pause, if the operation was in vain
abbrev pub going : Option ℕ → Job → Turn
going None job = On job note.Quiet
going (Some time) job = Paused job time

-- by what it wants next: it goes on, or has ended, which leads to something else
abbrev pub GoesTo : {E : Type 0} → Next (Spent E) → Option ℕ → Job → (Option E → Turn → Type 0) → Turn → Type 0
GoesTo (Do op) pause job Ended turn = turn ≡ going pause job
GoesTo (Wait time) pause job Ended turn = turn ≡ going pause job
GoesTo (End spent) pause job Ended turn = Ended spent.end turn

-- ---- a job has ended

-- software asks for low power, or the pin may: not what waking a module up stores
abbrev pub is_low_power_requested : Memory → Bool
is_low_power_requested image = number image (fields.Cmis cmis.LowPwrAllowHW) == 1 || number image (fields.Cmis cmis.LowPwrRequestSW) == 1

-- a module that was woken up and isn't ready has changed if low power is requested anew, as after a reset
abbrev pub unready : Bool → PortFault
unready true = fault.Changed
unready false = fault.Asleep

-- one that was woken up before is not woken up again at once
abbrev pub woken_again : Bool → Bool → Patience → Turn
woken_again true requested patience = Failed (unready requested)
woken_again false requested patience = On (waking patience) note.Identified

abbrev pub decided : Bool → Bool → Patience → Decision → Turn
decided woken requested patience (Leave reason) = Left reason
decided woken requested patience Wake = woken_again woken requested patience
decided woken requested patience Sleep = On (sleeping patience) note.Identified
decided woken requested patience (Hold goal) = On (watching goal patience) note.CameUp
decided woken requested patience (Activate goal) = On (activating goal patience) note.Identified
decided woken requested patience (Provision goal) = On (provisioning goal patience) note.Identified

abbrev pub IsRead : Wanted → Bool → Memory → Option (Timed (Unit {0})) → Turn → Type 0
IsRead wanted woken image (Some (InTime end)) turn = (decision : Decision) × IsDecision wanted image decision × (turn ≡ decided woken (is_low_power_requested image) (patience_for image) decision)
IsRead wanted woken image (Some Late) turn = turn ≡ Failed fault.Unread
IsRead wanted woken image None turn = turn ≡ Failed fault.Unread

-- the fault in which a procedure ended, if it did
abbrev pub fault_in : Option (Timed (Option ProvisionFault)) → Option ProcedureFault
fault_in None = Some (why.Failed GaveUp)
fault_in (Some Late) = Some why.Overdue
fault_in (Some (InTime None)) = None
fault_in (Some (InTime (Some because))) = Some (why.Failed because)

-- a module whose global controls were not stored was not asked to wake up
abbrev pub waking_fault : PowerStage → ProcedureFault → PortFault
waking_fault Unread because = fault.WakingRefused
waking_fault (Found byte) because = fault.WakingRefused
waking_fault Stored because = fault.Waking because
waking_fault Met because = fault.Waking because

abbrev pub woken_up : PowerStage → Option ProcedureFault → Turn
woken_up stage None = On (reading true) note.Woken
woken_up stage (Some because) = Failed (waking_fault stage because)

abbrev pub slept : Option ProcedureFault → Turn
slept None = Left Asleep
slept (Some because) = Failed (fault.Sleeping because)

abbrev pub provisioned : Goal → Patience → Option ProcedureFault → Turn
provisioned goal patience None = On (activating goal patience) note.Provisioned
provisioned goal patience (Some because) = Failed (fault.Provisioning because)

-- the module is looked at before it is said that it came up
abbrev pub activated : Goal → Patience → Option ProcedureFault → Turn
activated goal patience None = On (confirming goal patience) note.Quiet
activated goal patience (Some because) = Failed (fault.Activating because)

-- this is said of a module that a look has found as wanted
abbrev pub seen : Goal → Patience → Note → Option (Timed Bool) → Turn
seen goal patience noted None = Failed fault.Unseen
seen goal patience noted (Some Late) = Failed fault.Unseen
seen goal patience noted (Some (InTime true)) = On (watching goal patience) noted
seen goal patience noted (Some (InTime false)) = Failed fault.Changed

-- ---- each job

abbrev pub IsReadingTurn : Wanted → Patient (OnPage Halves) → Bool → Reply → Turn → Type 0
IsReadingTurn wanted job woken reply turn =
    let later = reading_after job reply in
    GoesTo (reading_wants later) (pause_after (wants_on paged_halves) (after_on paged_halves) job reply) (Reading later woken)
    (λ end turn. IsRead wanted woken later.conversation.conversation.conversation.image end turn) turn

abbrev pub IsWakingTurn : PatientPower → Reply → Turn → Type 0
IsWakingTurn job reply turn =
    let later = waking_after job reply in
    GoesTo (waking_wants later) (pause_after power_wants change_after job reply) (Waking later) (λ end turn. turn ≡ woken_up later.conversation.conversation.stage (fault_in end)) turn

abbrev pub IsSleepingTurn : PatientPower → Reply → Turn → Type 0
IsSleepingTurn job reply turn =
    let later = waking_after job reply in
    GoesTo (waking_wants later) (pause_after power_wants change_after job reply) (Sleeping later) (λ end turn. turn ≡ slept (fault_in end)) turn

abbrev pub IsProvisioningTurn : PatientProcedure → Goal → Reply → Turn → Type 0
IsProvisioningTurn job goal reply turn =
    let later = procedure_after job reply in
    GoesTo (procedure_wants later) (pause_after (wants_on paged_tasks) (after_on paged_tasks) job reply) (Provisioning later goal)
    (λ end turn. turn ≡ provisioned goal later.conversation.patience (fault_in end)) turn

abbrev pub IsActivatingTurn : PatientProcedure → Goal → Reply → Turn → Type 0
IsActivatingTurn job goal reply turn =
    let later = procedure_after job reply in
    GoesTo (procedure_wants later) (pause_after (wants_on paged_tasks) (after_on paged_tasks) job reply) (Activating later goal)
    (λ end turn. turn ≡ activated goal later.conversation.patience (fault_in end)) turn

abbrev pub IsConfirmingTurn : Patient (OnPage Look) → Reply → Turn → Type 0
IsConfirmingTurn job reply turn =
    let later = look_after job reply in
    GoesTo (look_wants later) (pause_after (wants_on paged_look) (after_on paged_look) job reply) (Confirming later)
    (λ end turn. turn ≡ seen later.conversation.conversation.conversation.goal later.conversation.patience note.CameUp end) turn

abbrev pub IsWatchingTurn : Patient (OnPage Look) → Reply → Turn → Type 0
IsWatchingTurn job reply turn =
    let later = look_after job reply in
    GoesTo (look_wants later) (pause_after (wants_on paged_look) (after_on paged_look) job reply) (Watching later)
    (λ end turn. turn ≡ seen later.conversation.conversation.conversation.goal later.conversation.patience note.Held end) turn

-- the job takes the reply
abbrev pub IsTurnOf : Wanted → Job → Reply → Turn → Type 0
IsTurnOf wanted (Reading job woken) reply turn = IsReadingTurn wanted job woken reply turn
IsTurnOf wanted (Waking job) reply turn = IsWakingTurn job reply turn
IsTurnOf wanted (Sleeping job) reply turn = IsSleepingTurn job reply turn
IsTurnOf wanted (Provisioning job goal) reply turn = IsProvisioningTurn job goal reply turn
IsTurnOf wanted (Activating job goal) reply turn = IsActivatingTurn job goal reply turn
IsTurnOf wanted (Confirming job) reply turn = IsConfirmingTurn job reply turn
IsTurnOf wanted (Watching job) reply turn = IsWatchingTurn job reply turn

-- unless the reply refuses an apply, and none was refused before: the module may have taken it, so it is read anew
abbrev pub UnlessApplyRefused : Bool → (Turn → Type 0) → Turn → Type 0
UnlessApplyRefused true GoesOn turn = turn ≡ Failed fault.ApplyRefused
UnlessApplyRefused false GoesOn turn = GoesOn turn

abbrev pub IsTurn : Bool → Wanted → Job → Reply → Turn → Type 0
IsTurn apply_refused wanted job reply turn = UnlessApplyRefused (not apply_refused && is_refused_apply (asked job) reply) (IsTurnOf wanted job reply) turn
