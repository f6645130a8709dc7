-- Procedures: tasks in order, each worked at until it is met. What may come next, and how a procedure ends.
-- Steps stand with the newest first. (docs/bus.md, "Procedures"; this project's own)
use Rattle.std.specs.Prelude.{◌≡◌, ◌≢◌, ℕ, ◌<◌, ◌≤◌, ◌⊎◌, ◌&&◌, ◌||◌, not, Bool, true, false, List, [], ◌∷◌, length, Option, Some, None, if◌then◌else◌, find, Result, Ok, Err, reverse}
use Rattle.std.specs.List.{AllByRecursion}
use Rattle.std.specs.Option.{option_map}
use Rattle.bus_model.specs.declared.bus.BusFault.TheVariants.{TraceFull}
use Rattle.bus_model.specs.declared.operation.Op.{Op}
use Rattle.bus_model.specs.declared.operation.Step.{Step}
use Rattle.bus_model.specs.Operations.{Answers}
use Rattle.bus_model.specs.Runs.{IsFull, Ran, Rules, Seen}
use Rattle.conversations.specs.Selecting.{trusted}
use Rattle.control_sets.specs.declared.fault.ProvisionFault.{ProvisionFault}
use Rattle.control_sets.specs.declared.fault.ProvisionFault.TheVariants.{GaveUp, Bus}
use Rattle.control_sets.specs.declared.procedures.task.Task.{Task}
use Rattle.control_sets.specs.declared.procedures.judgement.ReplyJudgement.{ReplyJudgement}
use Rattle.control_sets.specs.declared.procedures.judgement.ReplyJudgement.TheVariants.{Met, NotYet, Fails}
use Rattle.bus_model.specs.SameOperation.{same_op}
use Rattle.control_sets.specs.Pages.{History, selection, read_selection, is_page_confirmed, is_open}
use Rattle.control_sets.specs.OutcomeAnswers.{most_steps}
use Rattle.control_sets.specs.Tasks.{operation, page_of}
use Rattle.control_sets.specs.Judgements.{judgement}

-- the page, if one is needed, is confirmed
abbrev pub is_on : Option ℕ → History → Bool
is_on None before = true
is_on (Some page) before = is_page_confirmed page before

-- what a step says of a task: nothing, unless it is the task's operation on the page that it needs
abbrev pub judgement_at : Task → Step → History → ReplyJudgement
judgement_at task step before = if same_op (operation task) step.op && is_on (page_of task) before then judgement task step.reply else NotYet

abbrev pub is_met : ReplyJudgement → Bool
is_met Met = true
is_met judged = false

abbrev pub meets : Task → Step → History → Bool
meets task step before = is_met (judgement_at task step before)

-- some step met the task
abbrev pub was_met : Task → History → Bool
was_met task [] = false
was_met task (step ∷ before) = meets task step before || was_met task before

-- the first task that no step has met
abbrev pub in_hand : List Task → History → Option Task
in_hand tasks history = find (λ task. not (was_met task history)) tasks

-- its own operation if the page that it needs is confirmed, else a selection of that page
abbrev pub operation_on : History → Task → Option ℕ → Op
operation_on history task None = operation task
operation_on history task (Some page) = if is_page_confirmed page history then operation task else selection page

-- a selection is read back until that is answered; else it is the turn of the task in hand
abbrev pub next_operation : History → Task → Op
next_operation history task = if is_open history then read_selection else operation_on history task (page_of task)

-- each step is what comes next after those before it; of the selection, those tell that are trusted
abbrev pub EachIsNextBy : Bool → List Task → History → Type 0
EachIsNextBy doubts tasks [] = Unit {0}
EachIsNextBy doubts tasks (step ∷ before) =
    (option_map (next_operation (trusted doubts before)) (in_hand tasks before) ≡ Some step.op) × EachIsNextBy doubts tasks before

-- without doubt
abbrev pub EachIsNext : List Task → History → Type 0
EachIsNext tasks history = EachIsNextBy false tasks history

-- each reply is one that its operation can have
abbrev pub EachAnswers : History → Type 0
EachAnswers history = AllByRecursion (λ step. Answers step.op step.reply) history

-- the fault that a judgement is
abbrev pub fault_in : ReplyJudgement → Option ProvisionFault
fault_in (Fails fault) = Some fault
fault_in judged = None

abbrev pub or_else : Option ProvisionFault → Option ProvisionFault → Option ProvisionFault
or_else None later = later
or_else (Some fault) later = Some fault

-- the fault that a step shows of a task
abbrev pub fault_by : List Task → Step → History → Option ProvisionFault
fault_by [] step before = None
fault_by (task ∷ tasks) step before = or_else (fault_in (judgement_at task step before)) (fault_by tasks step before)

-- by the newest step
abbrev pub fault_after : List Task → History → Option ProvisionFault
fault_after tasks [] = None
fault_after tasks (step ∷ before) = fault_by tasks step before

-- the steps end in the answer: each task was met, or the last step shows the fault
abbrev pub EndsTasks : List Task → History → Result ℕ ProvisionFault → Type 0
EndsTasks tasks history (Ok steps) = (in_hand tasks history ≡ None) × (steps ≡ length history)
EndsTasks tasks history (Err fault) = fault_after tasks history ≡ Some fault

-- the steps end in no answer
pub record GoesOn (tasks : List Task) (history : History) : Type 0 where
  pub unmet : in_hand tasks history ≢ None
  pub no_fault : fault_after tasks history ≡ None

-- nor do the first of them, however many
abbrev pub EachGoesOn : List Task → History → Type 0
EachGoesOn tasks [] = GoesOn tasks []
EachGoesOn tasks (step ∷ before) = GoesOn tasks (step ∷ before) × EachGoesOn tasks before

-- they end in the answer, and no fewer of them end in any
abbrev pub EndsFirst : List Task → History → Result ℕ ProvisionFault → Type 0
EndsFirst tasks [] answer = EndsTasks tasks [] answer
EndsFirst tasks (step ∷ before) answer = EndsTasks tasks (step ∷ before) answer × EachGoesOn tasks before

-- as many steps were made as may be
pub record GivesTasksUp (tasks : List Task) (history : History) (answer : Result ℕ ProvisionFault) : Type 0 where
  pub fault : answer ≡ Err GaveUp
  pub all : length history ≡ most_steps
  pub goes_on : EachGoesOn tasks history

-- these steps are the first ones of a procedure, which has not come to its end
pub record IsUnfinishedBy (doubts : Bool) (tasks : List Task) (history : History) : Type 0 where
  pub each : EachIsNextBy doubts tasks history
  pub answers : EachAnswers history
  pub goes_on : EachGoesOn tasks history

-- these steps end in the answer
pub record HasEndedBy (doubts : Bool) (tasks : List Task) (history : History) (answer : Result ℕ ProvisionFault) : Type 0 where
  pub each : EachIsNextBy doubts tasks history
  pub answers : EachAnswers history
  pub few : length history ≤ most_steps
  pub answered : EndsFirst tasks history answer ⊎ GivesTasksUp tasks history answer

abbrev pub HasEnded : List Task → History → Result ℕ ProvisionFault → Type 0
HasEnded tasks history answer = HasEndedBy false tasks history answer

-- the bus's list is full, and the steps end in no answer
pub record RunsOut {S : Type 0} (tasks : List Task) (after : Seen S) (history : History) (answer : Result ℕ ProvisionFault) : Type 0 where
  pub each : EachIsNext tasks history
  pub answers : EachAnswers history
  pub fault : answer ≡ Err (Bus TraceFull)
  pub full : IsFull after
  pub fewer : length history < most_steps
  pub goes_on : EachGoesOn tasks history

-- how a procedure ends on a bus that is seen so afterwards
abbrev pub IsOutcome : {S : Type 0} → List Task → Seen S → History → Result ℕ ProvisionFault → Type 0
IsOutcome tasks after history answer = HasEnded tasks history answer ⊎ RunsOut tasks after history answer

-- old becomes new by steps of which this holds, told with the newest first
abbrev pub MakesHistory : {S : Type 0} → Rules S → Seen S → Seen S → (History → Type 0) → Type 0
MakesHistory rules old new P = (history : History) × Ran rules old new (reverse history) × P history
