-- A module is taken as woken up in vain only after it was told to wake up: until its global controls are stored, waking it can only be
-- refused.
use Rattle.std.proofs.Common.{◌≡◌, ◌⊎◌, inl, inr, ℕ, Bool, true, false, [], ◌∷◌, Option, Some, None, refl, sym, ap, subst, ◌∙◌}
use Rattle.std.specs.Prelude.{◌&&◌, not}
use Rattle.bus_model.specs.declared.operation.Op.{Op}
use Rattle.bus_model.specs.declared.operation.Reply.{Reply}
use Rattle.bus_model.specs.declared.operation.Reply.TheVariants.{Bytes, Done, Refused}
use Rattle.conversations.specs.declared.next.Next.{Next}
use Rattle.conversations.specs.declared.next.Next.TheVariants.{Do, Wait, End}
use Rattle.conversations.specs.declared.pausing.Patience.{Patience}
use Rattle.conversations.specs.declared.pausing.Timed.{Timed}
use Rattle.conversations.specs.declared.pausing.Timed.TheVariants.{InTime, Overdue}
use Rattle.conversations.specs.declared.within.Spent.{Spent}
use Rattle.conversations.specs.Pauses.{next_pausing}
use Rattle.control_sets.specs.declared.fault.ProvisionFault.{ProvisionFault}
use Rattle.control_sets.specs.declared.fault.ProvisionFault.TheVariants.{GaveUp}
use Rattle.control_sets.specs.declared.procedures.judgement.ReplyJudgement.{ReplyJudgement}
use Rattle.control_sets.specs.declared.procedures.judgement.ReplyJudgement.TheVariants.{Met, NotYet, Fails}
use Rattle.control_sets.specs.declared.procedures.power.Power.{Power}
use Rattle.control_sets.specs.declared.procedures.power.Power.TheVariants.{Awake}
use Rattle.control_sets.specs.declared.procedures.power.PowerChange.{PowerChange}
use Rattle.control_sets.specs.declared.procedures.power.PowerStage.{PowerStage}
use Rattle.control_sets.specs.declared.procedures.power.PowerStage.TheVariants as stage
use Rattle.control_sets.specs.Durations.{patience_for}
use Rattle.control_sets.specs.OutcomeCodes.{module_code}
use Rattle.control_sets.specs.PowerControls.{set_controls, wanted_controls}
use Rattle.control_sets.specs.PowerProgress.{PatientPower, change_after, judged_power, moved_to, operation_at, power_wants, stage_after, stage_judged, wants_by}
use Rattle.paged_memory.specs.Images.{Memory}
use Rattle.port_manager.specs.declared.deciding.Decision.{Decision}
use Rattle.port_manager.specs.declared.deciding.Decision.TheVariants.{Leave, Wake, Sleep, Hold, Activate, Provision}
use Rattle.port_manager.specs.declared.deciding.Goal.{Goal}
use Rattle.port_manager.specs.declared.deciding.Wanted.{Wanted}
use Rattle.port_manager.specs.declared.job.Job.{Job}
use Rattle.port_manager.specs.declared.job.Job.TheVariants as jobs
use Rattle.port_manager.specs.declared.port.Outcome.{Outcome}
use Rattle.port_manager.specs.declared.port.Outcome.TheVariants as outcome
use Rattle.port_manager.specs.declared.port.Outstanding.{Outstanding}
use Rattle.port_manager.specs.declared.port.Outstanding.TheVariants as outstanding
use Rattle.port_manager.specs.declared.port.Port.{Port}
use Rattle.port_manager.specs.declared.port.Stage.{Stage}
use Rattle.port_manager.specs.declared.port.Stage.TheVariants as stages
use Rattle.port_manager.specs.declared.times.Times.{Times}
use Rattle.port_manager.specs.declared.turn.Note.{Note}
use Rattle.port_manager.specs.declared.turn.Note.TheVariants as notes
use Rattle.port_manager.specs.declared.turn.PortFault.{PortFault}
use Rattle.port_manager.specs.declared.turn.PortFault.TheVariants as faults
use Rattle.port_manager.specs.declared.turn.ProcedureFault.{ProcedureFault}
use Rattle.port_manager.specs.declared.turn.ProcedureFault.TheVariants as why
use Rattle.port_manager.specs.Flags.{no_flags}
use Rattle.port_manager.specs.Jobs.{asked, look_after, look_wants, procedure_after, procedure_wants, reading, reading_after, reading_wants, waking_after, waking_wants}
use Rattle.port_manager.specs.Ports.{IfWorking, IsRestartedIn, IsTakenBy, IsTurnedIn, absent, answered, awaited, begun_in, forsaken, is_vain_after, noting, outcome_of, reconsidered_by, turned, vain_after}
use Rattle.port_manager.specs.Requests.{granted}
use Rattle.port_manager.specs.RefusedApplies.{is_refused_apply}
use Rattle.port_manager.specs.Runs.{Becomes, Reaches, Runs}
use Rattle.port_manager.specs.Standing.{IfTrue, IsAt, IsNamed, IsTame, UnlessStale}
use Rattle.port_manager.specs.Stories.{Event, Story, acknowledge, ask, demand, drop, hear, hold, make, plug, pull, reconsider, vain_in}
use Rattle.port_manager.specs.Turns.{GoesTo, IsRead, IsTurn, IsTurnOf, Turn, UnlessApplyRefused, activated, decided, fault_in, going, provisioned, seen, slept, unready, waking_fault, woken_up}
use Rattle.port_manager.specs.Turns as turns
use Rattle.port_manager.specs.Wakings.{TellsToWake, WasTold}
use Rattle.port_manager.proofs.PatientLaws.{asked_within, kept_within, pausing_ends, within_ends}
use Rattle.port_manager.proofs.StoreLaws.{not_vain}
use Rattle.port_manager.proofs.StoryLaws.{asks_job, asks_when, fresh, reaches_at, unless_at}
use Rattle.port_manager.proofs.TurnCases.{pause_of}

-- ---- what a job says of what the module was told

-- by the time that its global controls are stored
abbrev IfStored : PowerStage → Type 0 → Type 0
IfStored stage.Unread told = Unit {0}
IfStored (stage.Found byte) told = Unit {0}
IfStored stage.Stored told = told
IfStored stage.Met told = told

abbrev IsTold : Type 0 → Job → Type 0
IsTold told (jobs.Reading job woken) = IfTrue woken told
IsTold told (jobs.Waking job) = IfStored job.conversation.conversation.stage told
IsTold told (jobs.Sleeping job) = Unit {0}
IsTold told (jobs.Provisioning job goal) = Unit {0}
IsTold told (jobs.Activating job goal) = Unit {0}
IsTold told (jobs.Confirming job) = Unit {0}
IsTold told (jobs.Watching job) = Unit {0}

abbrev IsWaking : Job → Type 0
IsWaking (jobs.Reading job woken) = ⊥
IsWaking (jobs.Waking job) = Unit {0}
IsWaking (jobs.Sleeping job) = ⊥
IsWaking (jobs.Provisioning job goal) = ⊥
IsWaking (jobs.Activating job goal) = ⊥
IsWaking (jobs.Confirming job) = ⊥
IsWaking (jobs.Watching job) = ⊥

-- a fault of a module that isn't ready says that it was told; one that it could not be told says what the job was
abbrev Says : Type 0 → Type 0 → PortFault → Type 0
Says told wakes faults.Asleep = told
Says told wakes (faults.Waking because) = told
Says told wakes faults.WakingRefused = wakes
Says told wakes faults.Unread = Unit {0}
Says told wakes (faults.Sleeping because) = Unit {0}
Says told wakes (faults.Provisioning because) = Unit {0}
Says told wakes (faults.Activating because) = Unit {0}
Says told wakes faults.Unseen = Unit {0}
Says told wakes faults.Changed = Unit {0}
Says told wakes faults.ApplyRefused = Unit {0}

abbrev TurnTells : Type 0 → Type 0 → Turn → Type 0
TurnTells told wakes (turns.On job note) = IsTold told job
TurnTells told wakes (turns.Paused job time) = IsTold told job
TurnTells told wakes (turns.Failed fault) = Says told wakes fault
TurnTells told wakes (turns.Left reason) = Unit {0}

said_if_vain : (told wakes : Type 0) (fault : PortFault) (vain : Bool) → Says told wakes fault → IfTrue vain told → IfTrue (is_vain_after fault vain) told
said_if_vain told wakes faults.Asleep vain says before = says
said_if_vain told wakes (faults.Waking because) vain says before = says
said_if_vain told wakes faults.Changed vain says before = tt
said_if_vain told wakes faults.WakingRefused vain says before = before
said_if_vain told wakes faults.Unread vain says before = before
said_if_vain told wakes (faults.Sleeping because) vain says before = before
said_if_vain told wakes (faults.Provisioning because) vain says before = before
said_if_vain told wakes (faults.Activating because) vain says before = before
said_if_vain told wakes faults.Unseen vain says before = before
said_if_vain told wakes faults.ApplyRefused vain says before = before

-- a module that was told to wake up, and isn't ready
unready_told : (told : Type 0) (requested : Bool) → told → Says told ⊥ (unready requested)
unready_told told true is = tt
unready_told told false is = is

more_if : (b : Bool) (P Q : Type 0) → (P → Q) → IfTrue b P → IfTrue b Q
more_if true P Q more p = more p
more_if false P Q more p = tt

pub ended_within : (job : PatientPower) (steps : ℕ) → waking_wants job ≡ End (record { steps = steps; end = Some (InTime None) }) → power_wants job.conversation.conversation ≡ End None
ended_within job steps e =
    let wanted = power_wants job.conversation.conversation in
    let pausing = next_pausing job.conversation.due job.conversation.idle job.conversation.patience wanted in
    pausing_ends job.conversation.due job.conversation.idle job.conversation.patience wanted None
    (within_ends job.steps job.limit pausing (record { steps = steps; end = Some (InTime None) }) (InTime None) e refl)

-- ---- waking a module up

-- one that ends without a fault has stored the controls
stored_by : (told : Type 0) (power : Power) (fault : Option ProvisionFault) (at : PowerStage) → wants_by fault (operation_at power at) ≡ End None → IfStored at told → told
stored_by told power (Some fault) at e stored = absurd cc
stored_by told power None stage.Unread e stored = absurd cc
stored_by told power None (stage.Found byte) e stored = absurd cc
stored_by told power None stage.Stored e stored = stored
stored_by told power None stage.Met e stored = stored

failed_waking : (told : Type 0) (at : PowerStage) (because : ProcedureFault) → IfStored at told → Says told (Unit {0}) (waking_fault at because)
failed_waking told stage.Unread because stored = tt
failed_waking told (stage.Found byte) because stored = tt
failed_waking told stage.Stored because stored = stored
failed_waking told stage.Met because stored = stored

ended_waking : (told : Type 0) (job : PatientPower) (steps : ℕ) (end : Option (Timed (Option ProvisionFault))) → IfStored job.conversation.conversation.stage told
    → waking_wants job ≡ End (record { steps = steps; end = end }) → TurnTells told (Unit {0}) (woken_up job.conversation.conversation.stage (fault_in end))
ended_waking told job steps None stored e = failed_waking told job.conversation.conversation.stage (why.Failed GaveUp) stored
ended_waking told job steps (Some Overdue) stored e = failed_waking told job.conversation.conversation.stage why.Overdue stored
ended_waking told job steps (Some (InTime (Some because))) stored e = failed_waking told job.conversation.conversation.stage (why.Failed because) stored
ended_waking told job steps (Some (InTime None)) stored e =
    let change = job.conversation.conversation in stored_by told change.power change.fault change.stage (ended_within job steps e) stored

-- what is stored of a module that is to be awake wakes it up
wakes_by : (power : Power) (fault : Option ProvisionFault) (byte : ℕ) (op : Op) → power ≡ Awake → wants_by fault (operation_at power (stage.Found byte)) ≡ Do op → op ≡ set_controls (wanted_controls Awake byte)
wakes_by power None byte op awake e = let same : op ≡ set_controls (wanted_controls power byte) = cc in same ∙ ap (λ (power : Power). set_controls (wanted_controls power byte)) awake
wakes_by power (Some fault) byte op awake e = absurd cc

-- ---- what a reply leads to, if what was told before is told, and this operation may tell it

module _ (before told : Type 0) (op : Op) (reply : Reply) (more : before → told) (tells : TellsToWake op reply → told) where
  judged_told : (power : Power) (fault : Option ProvisionFault) (judged : ReplyJudgement) → told
      → IfStored (moved_to (record { power = power; stage = stage.Stored; fault = fault }) (stage_judged judged)).stage told
  judged_told power fault Met is = is
  judged_told power fault NotYet is = is
  judged_told power fault (Fails because) is = is

  stage_told : (power : Power) (fault : Option ProvisionFault) (at : PowerStage) (answer : Reply) → reply ≡ answer → power ≡ Awake → wants_by fault (operation_at power at) ≡ Do op → IfStored at before
      → IfStored (moved_to (record { power = power; stage = at; fault = fault }) (stage_after power at answer)).stage told
  stage_told power fault stage.Unread (Bytes bytes) is awake wants stored = tt
  stage_told power fault stage.Unread Done is awake wants stored = tt
  stage_told power fault stage.Unread Refused is awake wants stored = tt
  stage_told power fault (stage.Found byte) (Bytes bytes) is awake wants stored = tt
  stage_told power fault (stage.Found byte) Done is awake wants stored = tells (byte, wakes_by power fault byte op awake wants, is)
  stage_told power fault (stage.Found byte) Refused is awake wants stored = tt
  stage_told power fault stage.Stored (Bytes bytes) is awake wants stored = judged_told power fault (judged_power power (module_code bytes.items)) (more stored)
  stage_told power fault stage.Stored Done is awake wants stored = more stored
  stage_told power fault stage.Stored Refused is awake wants stored = more stored
  stage_told power fault stage.Met (Bytes bytes) is awake wants stored = more stored
  stage_told power fault stage.Met Done is awake wants stored = more stored
  stage_told power fault stage.Met Refused is awake wants stored = more stored

  waking_told : (job : PatientPower) → job.conversation.conversation.power ≡ Awake → asked (jobs.Waking job) ≡ Some op → IfStored job.conversation.conversation.stage before
      → IfStored (waking_after job reply).conversation.conversation.stage told
  waking_told job awake asks stored =
      let change = job.conversation.conversation in
      kept_within (λ (change : PowerChange). IfStored change.stage told) power_wants change_after job reply
      (stage_told change.power change.fault change.stage reply refl awake (asked_within power_wants job op asks) stored)

  going_told : (wakes : Type 0) (pause : Option ℕ) (job : Job) → IsTold told job → TurnTells told wakes (going pause job)
  going_told wakes None job is = is
  going_told wakes (Some time) job is = is

  -- the job goes on, or has ended
  goes_or_ends : {E : Type 0} (wakes : Type 0) (next : Next (Spent E)) (pause : Option ℕ) (job : Job) (Ended : Option E → Turn → Type 0) (turn : Turn) → IsTold told job
      → ((spent : Spent E) → next ≡ End spent → Ended spent.end turn → TurnTells told wakes turn) → GoesTo next pause job Ended turn → TurnTells told wakes turn
  goes_or_ends wakes (Do next) pause job Ended turn is ended leads = subst (TurnTells told wakes) (sym leads) (going_told wakes pause job is)
  goes_or_ends wakes (Wait time) pause job Ended turn is ended leads = subst (TurnTells told wakes) (sym leads) (going_told wakes pause job is)
  goes_or_ends wakes (End spent) pause job Ended turn is ended leads = ended spent refl leads

  decided_told : (woken requested : Bool) (patience : Patience) (decision : Decision) → IfTrue woken told → TurnTells told ⊥ (decided woken requested patience decision)
  decided_told woken requested patience (Leave reason) is = tt
  decided_told true requested patience Wake is = unready_told told requested is
  decided_told false requested patience Wake is = tt
  decided_told woken requested patience Sleep is = tt
  decided_told woken requested patience (Hold goal) is = tt
  decided_told woken requested patience (Activate goal) is = tt
  decided_told woken requested patience (Provision goal) is = tt

  read_told : (wanted : Wanted) (woken : Bool) (image : Memory) (end : Option (Timed (Unit {0}))) (turn : Turn) → IfTrue woken told → IsRead wanted woken image end turn → TurnTells told ⊥ turn
  read_told wanted woken image None turn is leads = subst (TurnTells told ⊥) (sym leads) tt
  read_told wanted woken image (Some Overdue) turn is leads = subst (TurnTells told ⊥) (sym leads) tt
  read_told wanted woken image (Some (InTime end)) turn is (decision, judged, leads) = subst (TurnTells told ⊥) (sym leads) (decided_told woken _ (patience_for image) decision is)

  slept_told : (because : Option ProcedureFault) → TurnTells told ⊥ (slept because)
  slept_told None = tt
  slept_told (Some because) = tt

  provisioned_told : (goal : Goal) (patience : Patience) (because : Option ProcedureFault) → TurnTells told ⊥ (provisioned goal patience because)
  provisioned_told goal patience None = tt
  provisioned_told goal patience (Some because) = tt

  activated_told : (goal : Goal) (patience : Patience) (because : Option ProcedureFault) → TurnTells told ⊥ (activated goal patience because)
  activated_told goal patience None = tt
  activated_told goal patience (Some because) = tt

  seen_told : (goal : Goal) (patience : Patience) (noted : Note) (end : Option (Timed Bool)) → TurnTells told ⊥ (seen goal patience noted end)
  seen_told goal patience noted None = tt
  seen_told goal patience noted (Some Overdue) = tt
  seen_told goal patience noted (Some (InTime true)) = tt
  seen_told goal patience noted (Some (InTime false)) = tt

  taken_told : (story : Story) (wanted : Wanted) (job : Job) (turn : Turn) → asked job ≡ Some op → IsNamed story job → IsTold before job → IsTurnOf wanted job reply turn → TurnTells told (IsWaking job) turn
  taken_told story wanted (jobs.Reading job woken) turn asks named was leads =
      let after = reading_after job reply in
      let is = more_if woken before told more was in
      goes_or_ends ⊥ (reading_wants after) (pause_of (jobs.Reading job woken) reply) (jobs.Reading after woken) (λ end turn. IsRead wanted woken after.conversation.conversation.conversation.image end turn) turn is
      (λ spent e ended. read_told wanted woken after.conversation.conversation.conversation.image spent.end turn is ended) leads
  taken_told story wanted (jobs.Waking job) turn asks named was leads =
      let after = waking_after job reply in
      let is = waking_told job named.0 asks was in
      goes_or_ends (Unit {0}) (waking_wants after) (pause_of (jobs.Waking job) reply) (jobs.Waking after) (λ end turn. turn ≡ woken_up after.conversation.conversation.stage (fault_in end)) turn is
      (λ spent e ended. subst (TurnTells told (Unit {0})) (sym ended) (ended_waking told after spent.steps spent.end is e)) leads
  taken_told story wanted (jobs.Sleeping job) turn asks named was leads =
      let after = waking_after job reply in
      goes_or_ends ⊥ (waking_wants after) (pause_of (jobs.Sleeping job) reply) (jobs.Sleeping after) (λ end turn. turn ≡ slept (fault_in end)) turn tt
      (λ spent e ended. subst (TurnTells told ⊥) (sym ended) (slept_told (fault_in spent.end))) leads
  taken_told story wanted (jobs.Provisioning job goal) turn asks named was leads =
      let after = procedure_after job reply in
      goes_or_ends ⊥ (procedure_wants after) (pause_of (jobs.Provisioning job goal) reply) (jobs.Provisioning after goal) (λ end turn. turn ≡ provisioned goal after.conversation.patience (fault_in end)) turn tt
      (λ spent e ended. subst (TurnTells told ⊥) (sym ended) (provisioned_told goal after.conversation.patience (fault_in spent.end))) leads
  taken_told story wanted (jobs.Activating job goal) turn asks named was leads =
      let after = procedure_after job reply in
      goes_or_ends ⊥ (procedure_wants after) (pause_of (jobs.Activating job goal) reply) (jobs.Activating after goal) (λ end turn. turn ≡ activated goal after.conversation.patience (fault_in end)) turn tt
      (λ spent e ended. subst (TurnTells told ⊥) (sym ended) (activated_told goal after.conversation.patience (fault_in spent.end))) leads
  taken_told story wanted (jobs.Confirming job) turn asks named was leads =
      let after = look_after job reply in
      let goal = after.conversation.conversation.conversation.goal in
      goes_or_ends ⊥ (look_wants after) (pause_of (jobs.Confirming job) reply) (jobs.Confirming after) (λ end turn. turn ≡ seen goal after.conversation.patience notes.CameUp end) turn tt
      (λ spent e ended. subst (TurnTells told ⊥) (sym ended) (seen_told goal after.conversation.patience notes.CameUp spent.end)) leads
  taken_told story wanted (jobs.Watching job) turn asks named was leads =
      let after = look_after job reply in
      let goal = after.conversation.conversation.conversation.goal in
      goes_or_ends ⊥ (look_wants after) (pause_of (jobs.Watching job) reply) (jobs.Watching after) (λ end turn. turn ≡ seen goal after.conversation.patience notes.Held end) turn tt
      (λ spent e ended. subst (TurnTells told ⊥) (sym ended) (seen_told goal after.conversation.patience notes.Held spent.end)) leads

  unless_told : (refused : Bool) (story : Story) (wanted : Wanted) (job : Job) (turn : Turn) → asked job ≡ Some op → IsNamed story job → IsTold before job → UnlessApplyRefused refused (IsTurnOf wanted job reply) turn
      → TurnTells told (IsWaking job) turn
  unless_told true story wanted job turn asks named was leads = subst (TurnTells told (IsWaking job)) (sym leads) tt
  unless_told false story wanted job turn asks named was leads = taken_told story wanted job turn asks named was leads

  turn_told : (apply_refused : Bool) (story : Story) (wanted : Wanted) (job : Job) (turn : Turn) → asked job ≡ Some op → IsNamed story job → IsTold before job → IsTurn apply_refused wanted job reply turn
      → TurnTells told (IsWaking job) turn
  turn_told apply_refused story wanted job turn asks named was leads = unless_told (not apply_refused && is_refused_apply (asked job) reply) story wanted job turn asks named was leads

-- ---- a port after a story

record IsToldIn (story : Story) (port : Port) : Type 0 where
  vain : IfTrue port.vain (WasTold story)
  job : UnlessStale port.outstanding (IfWorking port.stage (IsTold (WasTold story)))

begun_told : (told : Type 0) (stage : Stage) → IfWorking (begun_in stage) (IsTold told)
begun_told told stages.Absent = tt
begun_told told (stages.Left reason) = tt
begun_told told (stages.Working job) = tt

-- somebody has asked
anew_told : (o : Outstanding) (story : Story) (port : Port) → IsToldIn story (reconsidered_by o (record port { vain = false }))
anew_told outstanding.Nothing story port = record { vain = tt; job = fresh port.outstanding (IfWorking (begun_in port.stage) (IsTold (WasTold story))) (begun_told (WasTold story) port.stage) }
anew_told outstanding.Forsaken story port = record { vain = tt; job = fresh port.outstanding (IfWorking (begun_in port.stage) (IsTold (WasTold story))) (begun_told (WasTold story) port.stage) }
anew_told outstanding.Awaited story port = record { vain = tt; job = tt }
anew_told outstanding.Stale story port = record { vain = tt; job = tt }

-- the job of a port that waits for a reply
works_in : (port : Port) (job : Job) (P : Job → Type 0) → port.outstanding ≡ outstanding.Awaited → port.stage ≡ stages.Working job → UnlessStale port.outstanding (IfWorking port.stage P) → P job
works_in port job P waits works all = subst (λ (stage : Stage). IfWorking stage P) works (unless_at port.outstanding outstanding.Awaited (IfWorking port.stage P) waits all)

module _ (story : Story) (port : Port) (op : Op) (reply : Reply) (wanted : Wanted) (now : ℕ) (at : IsAt story port) (told : IsToldIn story port) where
  abbrev AfterIt : Type 0
  AfterIt = TellsToWake op reply ⊎ WasTold story

  turn_tells : (job : Job) (turn : Turn) → port.outstanding ≡ outstanding.Awaited → port.stage ≡ stages.Working job → asked job ≡ Some op
      → IsTurn port.apply_refused (granted port.request wanted) job reply turn → TurnTells AfterIt (IsWaking job) turn
  turn_tells job turn waits works asks leads =
      turn_told (WasTold story) AfterIt op reply (λ was. inr was) (λ tells. inl tells) port.apply_refused story (granted port.request wanted) job turn asks
      (works_in port job (IsNamed story) waits works at.named) (works_in port job (IsTold (WasTold story)) waits works told.job) leads

  turned_told : (job : Job) (turn : Turn) → TurnTells AfterIt (IsWaking job) turn
      → IsToldIn (make op reply wanted now (outcome_of port turn now) ∷ story) (turned (noting (answered port) (asked job) reply now) turn now)
  turned_told job (turns.On after note) tells = record { vain = more_if port.vain (WasTold story) AfterIt (λ was. inr was) told.vain; job = tells }
  turned_told job (turns.Paused after time) tells = record { vain = more_if port.vain (WasTold story) AfterIt (λ was. inr was) told.vain; job = tells }
  turned_told job (turns.Failed fault) tells =
      let vain : IfTrue (vain_after port fault) AfterIt =
      said_if_vain AfterIt (IsWaking job) fault port.vain tells (more_if port.vain (WasTold story) AfterIt (λ was. inr was) told.vain) in
      record { vain = vain; job = vain }
  turned_told job (turns.Left reason) tells = record { vain = more_if port.vain (WasTold story) AfterIt (λ was. inr was) told.vain; job = tt }

  take_told : (o : Outstanding) (result : Outcome) (after : Port) → (o ≡ outstanding.Awaited) ⊎ (o ≡ outstanding.Stale) → port.outstanding ≡ o → awaited port ≡ Some op
      → IsTakenBy o port reply wanted now result after → IsToldIn (make op reply wanted now result ∷ story) after
  take_told outstanding.Nothing result after (inl awaits) e asks is = absurd (let same = awaits in cc)
  take_told outstanding.Nothing result after (inr stale) e asks is = absurd (let same = stale in cc)
  take_told outstanding.Forsaken result after (inl awaits) e asks is = absurd (let same = awaits in cc)
  take_told outstanding.Forsaken result after (inr stale) e asks is = absurd (let same = stale in cc)
  take_told outstanding.Awaited result after waits e asks is =
      let (job, works, wants) = asks_job port.stage op asks in
      let (turn, leads, gives, becomes) = subst (λ (stage : Stage). IsTurnedIn stage port reply wanted now result after) works is in
      subst (λ (after : Port). IsToldIn (make op reply wanted now result ∷ story) after) (sym becomes)
      (subst (λ (result : Outcome). IsToldIn (make op reply wanted now result ∷ story) (turned (noting (answered port) (asked job) reply now) turn now)) (sym gives)
      (turned_told job turn (turn_tells job turn e works wants leads)))
  take_told outstanding.Stale result after waits e asks is =
      let (job, works, wants) = asks_job port.stage op asks in
      let (gives, becomes) = subst (λ (stage : Stage). IsRestartedIn stage port reply now result after) works is in
      subst (λ (after : Port). IsToldIn (make op reply wanted now result ∷ story) after) (sym becomes)
      (subst (λ (result : Outcome). IsToldIn (make op reply wanted now result ∷ story) (record (noting (answered port) (asked job) reply now) { stage = stages.Working (reading port.vain) })) (sym gives)
      (record { vain = told.vain; job = told.vain }))

becomes_told : (port after : Port) (event : Event) (before : Story) → IsAt before port → IsToldIn before port → Becomes port event after → IsToldIn (event ∷ before) after
becomes_told port after (plug now) before at told is = subst (IsToldIn (plug now ∷ before)) (sym is) (record { vain = tt; job = fresh (forsaken port.outstanding) (Unit {0}) tt })
becomes_told port after pull before at told is = subst (IsToldIn (pull ∷ before)) (sym is) (record { vain = tt; job = fresh (forsaken port.outstanding) (Unit {0}) tt })
becomes_told port after reconsider before at told is = subst (IsToldIn (reconsider ∷ before)) (sym is) (anew_told port.outstanding (reconsider ∷ before) port)
becomes_told port after (hold held) before at told is = subst (IsToldIn (hold held ∷ before)) (sym is) (anew_told port.outstanding (hold held ∷ before) (record port { held = held }))
becomes_told port after (demand request) before at told is = subst (IsToldIn (demand request ∷ before)) (sym is) (anew_told port.outstanding (demand request ∷ before) (record port { request = request }))
becomes_told port after (acknowledge past) before at told is = subst (IsToldIn (acknowledge past ∷ before)) (sym is) (record { vain = told.vain; job = told.job })
becomes_told port after (hear alive began) before at told is = subst (IsToldIn (hear alive began ∷ before)) (sym is) (record { vain = told.vain; job = told.job })
becomes_told port after (ask op moment) before at told (asks, is) =
    let (nothing, does) = asks_when port.outstanding port moment op asks in
    subst (IsToldIn (ask op moment ∷ before)) (sym is) (record { vain = told.vain; job = unless_at port.outstanding outstanding.Nothing (IfWorking port.stage (IsTold (WasTold before))) nothing told.job })
becomes_told port after (make op reply wanted now result) before at told (waited, asks, answers, is) =
    take_told before port op reply wanted now at told port.outstanding result after waited refl asks is
becomes_told port after drop before at told (e, is) =
    subst (IsToldIn (drop ∷ before)) (sym is) (record { vain = told.vain; job = unless_at port.outstanding outstanding.Forsaken (IfWorking port.stage (IsTold (WasTold before))) e told.job })

runs_told : (times : Times) (story : Story) (port : Port) → Runs (absent times outstanding.Nothing no_flags false) story port → IsToldIn story port
runs_told times [] port is = subst (IsToldIn []) (sym is) (record { vain = tt; job = tt })
runs_told times (event ∷ before) port (between, ran, is) = becomes_told between port event before (reaches_at before between (times, ran)) (runs_told times before between ran) is

pub told_if_vain : (story : Story) (port : Port) → Reaches story port → vain_in story ≡ true → WasTold story
told_if_vain story port (times, ran) vain =
    let at = reaches_at story port (times, ran) in
    subst (λ (vain : Bool). IfTrue vain (WasTold story)) (at.vain ∙ vain) (runs_told times story port ran).vain

-- ---- a module that could not be told to wake up, or has changed since

-- nothing is woken up that was woken up in vain
untamed : (job : Job) → IsWaking job → IsTame job → ⊥
untamed (jobs.Reading job woken) wakes tame = absurd wakes
untamed (jobs.Waking job) wakes tame = tame
untamed (jobs.Sleeping job) wakes tame = absurd wakes
untamed (jobs.Provisioning job goal) wakes tame = absurd wakes
untamed (jobs.Activating job goal) wakes tame = absurd wakes
untamed (jobs.Confirming job) wakes tame = absurd wakes
untamed (jobs.Watching job) wakes tame = absurd wakes

module _ (story : Story) (port : Port) (op : Op) (reply : Reply) (wanted : Wanted) (now moment : ℕ) (fault : PortFault) (again : (fault ≡ faults.WakingRefused) ⊎ (fault ≡ faults.Changed))
    (at : IsAt story port) (told : IsToldIn story port) where
  abbrev failed : Outcome
  failed = outcome.Failed fault moment

  failed_by : (turn : Turn) → failed ≡ outcome_of port turn now → turn ≡ turns.Failed fault
  failed_by (turns.On job note) gives = absurd (let same = gives in cc)
  failed_by (turns.Paused job time) gives = absurd (let same = gives in cc)
  failed_by (turns.Failed other) gives = let same : other ≡ fault = cc in ap (λ (fault : PortFault). turns.Failed fault) same
  failed_by (turns.Left reason) gives = absurd (let same = gives in cc)

  never_vain : (job : Job) → port.stage ≡ stages.Working job → IsWaking job → port.vain ≡ false
  never_vain job works wakes =
      not_vain port.vain (more_if port.vain (IfWorking port.stage IsTame) ⊥ (λ tame. untamed job wakes (subst (λ (stage : Stage). IfWorking stage IsTame) works tame)) at.tame)

  -- it isn't taken as woken up in vain
  spared : (job : Job) → port.stage ≡ stages.Working job → Says (AfterIt story port op reply wanted now at told) (IsWaking job) fault → (fault ≡ faults.WakingRefused) ⊎ (fault ≡ faults.Changed)
      → vain_after port fault ≡ false
  spared job works says (inl refused) =
      ap (λ (fault : PortFault). vain_after port fault) refused
      ∙ never_vain job works (subst (Says (AfterIt story port op reply wanted now at told) (IsWaking job)) refused says)
  spared job works says (inr changed) = ap (λ (fault : PortFault). vain_after port fault) changed

  abbrev IsAgain : Port → Type 0
  IsAgain after = (after.vain ≡ false) × (after.stage ≡ stages.Working (reading false))

  take_again : (o : Outstanding) (after : Port) → (o ≡ outstanding.Awaited) ⊎ (o ≡ outstanding.Stale) → port.outstanding ≡ o → awaited port ≡ Some op
      → IsTakenBy o port reply wanted now failed after → IsAgain after
  take_again outstanding.Nothing after (inl awaits) e asks is = absurd (let same = awaits in cc)
  take_again outstanding.Nothing after (inr stale) e asks is = absurd (let same = stale in cc)
  take_again outstanding.Forsaken after (inl awaits) e asks is = absurd (let same = awaits in cc)
  take_again outstanding.Forsaken after (inr stale) e asks is = absurd (let same = stale in cc)
  take_again outstanding.Awaited after waits e asks is =
      let (job, works, wants) = asks_job port.stage op asks in
      let (turn, leads, gives, becomes) = subst (λ (stage : Stage). IsTurnedIn stage port reply wanted now failed after) works is in
      let fails = failed_by turn gives in
      let says = subst (TurnTells (AfterIt story port op reply wanted now at told) (IsWaking job)) fails (turn_tells story port op reply wanted now at told job turn e works wants leads) in
      let same = spared job works says again in
      subst IsAgain (sym becomes)
      (subst (λ (turn : Turn). IsAgain (turned (noting (answered port) (asked job) reply now) turn now)) (sym fails)
      (same, ap (λ (vain : Bool). stages.Working (reading vain)) same))
  take_again outstanding.Stale after waits e asks is =
      let (job, works, wants) = asks_job port.stage op asks in
      let (gives, becomes) = subst (λ (stage : Stage). IsRestartedIn stage port reply now failed after) works is in
      absurd (let same : failed ≡ outcome.Dropped = gives in cc)

pub told_again : (story : Story) (port : Port) (op : Op) (reply : Reply) (wanted : Wanted) (now moment : ℕ) (fault : PortFault)
    → Reaches (make op reply wanted now (outcome.Failed fault moment) ∷ story) port → (fault ≡ faults.WakingRefused) ⊎ (fault ≡ faults.Changed)
    → (port.vain ≡ false) × (port.stage ≡ stages.Working (reading false))
told_again story port op reply wanted now moment fault (times, (between, ran, (waited, asks, answers, is))) again =
    take_again story between op reply wanted now moment fault again (reaches_at story between (times, ran)) (runs_told times story between ran) between.outstanding port waited refl asks is
