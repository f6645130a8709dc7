-- Procedures on a real bus: what they do and answer, by the events that they make there. (docs/bus.md, "Conversations"; this
-- project's own)
use Rattle.std.specs.Prelude.{◌≡◌, ◌⊎◌, ◌+◌, ◌*◌, ◌<◌, ℕ, true, length, Option, Some, None, Result, Ok, Err}
use Rattle.conversations.specs.declared.pausing.Patience.{Patience}
use Rattle.conversations.specs.declared.pausing.Timed.{Timed}
use Rattle.conversations.specs.declared.pausing.Timed.TheVariants.{InTime, Overdue}
use Rattle.conversations.specs.declared.watching.Look.TheVariants.{Seen}
use Rattle.conversations.specs.declared.watching.Watched.{Watched}
use Rattle.conversations.specs.declared.watching.Watched.TheVariants as watched
use Rattle.conversations.specs.declared.watching.Watching.{Watching}
use Rattle.conversations.specs.declared.within.Spent.{Spent}
use Rattle.conversations.specs.Budgets.{HasSpent}
use Rattle.conversations.specs.Carried.{IsCarriedOut}
use Rattle.conversations.specs.Events.{Events, steps_of}
use Rattle.conversations.specs.Pauses.{EndsPausing, GoesOnPausing}
use Rattle.conversations.specs.Watching.{EndsWatching, GoesOnWatching}
use Rattle.control_sets.specs.declared.fault.ProvisionFault.{ProvisionFault}
use Rattle.control_sets.specs.declared.fault.ProvisionFault.TheVariants.{GaveUp, Reserved}
use Rattle.control_sets.specs.declared.procedures.patient.PatientFault.{PatientFault}
use Rattle.control_sets.specs.declared.procedures.patient.PatientFault.TheVariants as patient
use Rattle.control_sets.specs.declared.procedures.power.Power.{Power}
use Rattle.control_sets.specs.declared.procedures.procedure.Work.{Work}
use Rattle.module_states.specs.declared.state.ModuleState.{ModuleState as State}
use Rattle.module_states.specs.declared.state.ModuleState.TheVariants as state
use Rattle.module_states.specs.Codes.{state_at}
use Rattle.control_sets.specs.OutcomeAnswers.{most_steps}
use Rattle.control_sets.specs.PowerProgress.{GoesOnAt, IsEndedIn}
use Rattle.control_sets.specs.Progress.{Ends, GoesOn, PatientProcedure}

-- what is answered by how it ended: the number of steps, or why it failed
abbrev pub answer_in_time : {F : Type 0} → ℕ → Option (Timed (Option ProvisionFault)) → Result ℕ (PatientFault F)
answer_in_time steps None = Err (patient.Failed GaveUp)
answer_in_time steps (Some (InTime None)) = Ok steps
answer_in_time steps (Some (InTime (Some fault))) = Err (patient.Failed fault)
answer_in_time steps (Some Overdue) = Err patient.Overdue

-- what is said of a module in another state than ModuleReady: a reset, a fault of its own, or the reserved code
abbrev pub left_in : {F : Type 0} → ℕ → Option State → PatientFault F
left_in code (Some state.Fault) = patient.Faulty
left_in code (Some state) = patient.Reset code
left_in code None = patient.Failed (Reserved code)

abbrev pub left_by : {F : Type 0} → ℕ → PatientFault F
left_by code = left_in code (state_at code)

-- and by how it ended that looked at the module's state
abbrev pub answer_watched : {F : Type 0} → Option (Watched (Spent (Timed (Option ProvisionFault)))) → Result ℕ (PatientFault F)
answer_watched None = Err (patient.Failed GaveUp)
answer_watched (Some (watched.InOrder spent)) = answer_in_time spent.steps spent.end
answer_watched (Some (watched.Left code)) = Err (left_by code)

-- a conversation was carried out so, and this was answered, by how it ended
abbrev pub IsAnswered : {E F : Type 0} → ℕ → (Events → Type 0) → (Events → E → Type 0) → (Spent E → Result ℕ (PatientFault F)) → Type 0 → (F → Type 0) → Events → Result ℕ (PatientFault F) → Type 0
IsAnswered {E} {F} limit Goes_on Ended told same fails events answer =
    ((spent : Spent E) × IsCarriedOut {F = F} limit Goes_on Ended same fails events (Ok spent) × (answer ≡ told spent))
    ⊎ ((fault : F) × IsCarriedOut {E = E} limit Goes_on Ended same fails events (Err fault) × (answer ≡ Err (patient.Stopped fault)))

-- each of its own steps may come after a look
abbrev pub most_with_looks : ℕ
most_with_looks = 2 * most_steps + 1

abbrev pub WatchfulProcedure : Type 0
WatchfulProcedure = Watching PatientProcedure

abbrev pub watchful_of : PatientProcedure → WatchfulProcedure
watchful_of procedure = record { conversation = procedure; watches = true; look = Seen }

-- of its own events: the tasks in order, each on its page, which is confirmed anew after each refusal
abbrev pub GoesOnPatiently : Patience → Work → Events → Type 0
GoesOnPatiently patience work own = GoesOnPausing patience (GoesOn true work) own × (length (steps_of own) < most_steps)

abbrev pub EndsPatiently : Patience → Work → Events → Spent (Timed (Option ProvisionFault)) → Type 0
EndsPatiently patience work own spent = HasSpent most_steps (GoesOnPausing patience (GoesOn true work)) (EndsPausing patience (GoesOn true work) (Ends true work)) own spent

-- of all its events: looks come before its own operations after waits
abbrev pub GoesOnWatched : Patience → Work → Events → Type 0
GoesOnWatched patience work events = GoesOnWatching true (GoesOnPatiently patience work) events

abbrev pub EndsWatched : Patience → Work → Events → Watched (Spent (Timed (Option ProvisionFault))) → Type 0
EndsWatched patience work events end = EndsWatching true (GoesOnPatiently patience work) (EndsPatiently patience work) events end

-- provisioning and activation were carried out so, and this was answered
abbrev pub IsPatientWork : {F : Type 0} → Patience → Work → Type 0 → (F → Type 0) → Events → Result ℕ (PatientFault F) → Type 0
IsPatientWork patience work same fails events answer =
    IsAnswered most_with_looks (GoesOnWatched patience work) (EndsWatched patience work) (λ spent. answer_watched spent.end) same fails events answer

abbrev pub IsPatientChange : {F : Type 0} → Patience → Power → Type 0 → (F → Type 0) → Events → Result ℕ (PatientFault F) → Type 0
IsPatientChange patience power same fails events answer =
    let Goes_on : Events → Type 0 = λ own. GoesOnAt power (steps_of own) in
    IsAnswered most_steps (GoesOnPausing patience Goes_on) (EndsPausing patience Goes_on (λ own fault. IsEndedIn power fault (steps_of own))) (λ spent. answer_in_time spent.steps spent.end) same fails events answer
