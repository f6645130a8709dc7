-- How far a list of tasks has come by the replies that it was told, what it asks for, and how it ends. Its steps are its own,
-- without those that select pages, the newest first. (docs/bus.md, "Procedures"; this project's own)
use Rattle.std.specs.Prelude.{◌≡◌, ◌<◌, ◌≤◌, ℕ, ◌+◌, Bool, true, false, List, [], ◌∷◌, length, Option, Some, None, slice_get}
use Rattle.std.specs.Option.{option_map}
use Rattle.bus_model.specs.declared.operation.Op.{Op}
use Rattle.bus_model.specs.declared.operation.Reply.{Reply}
use Rattle.bus_model.specs.Operations.{Answers}
use Rattle.conversations.specs.declared.next.Next.{Next}
use Rattle.conversations.specs.declared.next.Next.TheVariants.{Do, Wait, End}
use Rattle.conversations.specs.declared.on_page.OnPage.{OnPage}
use Rattle.conversations.specs.declared.pausing.Patience.{Patience}
use Rattle.conversations.specs.declared.within.Spent.{Spent}
use Rattle.conversations.specs.declared.within.Within.{Within}
use Rattle.conversations.specs.Events.{Events, steps_of}
use Rattle.conversations.specs.Patiently.{Patient, ToldPatiently}
use Rattle.conversations.specs.Selecting.{Knows, WithSelections, next_on, trusted}
use Rattle.paged_memory.specs.declared.page_addressing.PageAddressing.TheVariants.{BankAndPage}
use Rattle.paged_memory.specs.declared.page_addressing.KnownPage.{KnownPage}
use Rattle.control_sets.specs.declared.fault.ProvisionFault.{ProvisionFault}
use Rattle.control_sets.specs.declared.procedures.judgement.ReplyJudgement.{ReplyJudgement}
use Rattle.control_sets.specs.declared.procedures.judgement.ReplyJudgement.TheVariants.{Met, NotYet, Fails}
use Rattle.control_sets.specs.declared.procedures.procedure.TaskList.{TaskList}
use Rattle.control_sets.specs.declared.procedures.procedure.Work.{Work}
use Rattle.control_sets.specs.declared.procedures.procedure.Work.TheVariants.{Provisioning, Activation}
use Rattle.control_sets.specs.declared.procedures.task.Task.{Task}
use Rattle.control_sets.specs.Judgements.{judgement}
use Rattle.control_sets.specs.OutcomeAnswers.{most_steps}
use Rattle.control_sets.specs.Pages.{History}
use Rattle.control_sets.specs.PowerProgress.{answer_of}
use Rattle.control_sets.specs.Procedures.{EachAnswers, EachGoesOn, EachIsNext, HasEnded, in_hand, next_operation}
use Rattle.control_sets.specs.Tasks.{provisioning, activation, operation, page_of}

abbrev pub tasks_of : Work → List Task
tasks_of (Provisioning control lanes) = provisioning control lanes
tasks_of (Activation control lanes) = activation control lanes

-- where a list of tasks stands: how many were met, and the fault that was found
abbrev pub Standing : Type 0
Standing = ℕ × Option ProvisionFault

-- the task in hand: none after a fault, nor if all were met
abbrev pub task_at : List Task → ℕ → Option ProvisionFault → Option Task
task_at tasks met None = slice_get tasks met
task_at tasks met (Some fault) = None

-- its operation, or the end
abbrev pub wants_by : Option ProvisionFault → Option Task → Next (Option ProvisionFault)
wants_by fault None = End fault
wants_by fault (Some task) = Do (operation task)

-- the page that it needs
abbrev pub page_by : Option Task → Option ℕ
page_by None = None
page_by (Some task) = page_of task

abbrev pub judged_at : Standing → ReplyJudgement → Standing
judged_at stands Met = (stands.0 + 1, stands.1)
judged_at stands NotYet = stands
judged_at stands (Fails fault) = (stands.0, Some fault)

-- after a reply to its operation
abbrev pub told_at : Option Task → Standing → Reply → Standing
told_at None stands reply = stands
told_at (Some task) stands reply = judged_at stands (judgement task reply)

-- after the list's own steps
abbrev pub standing : List Task → History → Standing
standing tasks [] = (0, None)
standing tasks (step ∷ before) =
    told_at (task_at tasks (standing tasks before).0 (standing tasks before).1) (standing tasks before) step.reply

abbrev pub hand_after : List Task → History → Option Task
hand_after tasks own = task_at tasks (standing tasks own).0 (standing tasks own).1

abbrev pub wanted_after : List Task → History → Next (Option ProvisionFault)
wanted_after tasks own = wants_by (standing tasks own).1 (hand_after tasks own)

abbrev pub needed_after : List Task → History → Option ℕ
needed_after tasks own = page_by (hand_after tasks own)

-- each own step is what was wanted, and its reply one that it can have
abbrev pub EachIsWanted : List Task → History → Type 0
EachIsWanted tasks [] = Unit {0}
EachIsWanted tasks (step ∷ before) = (wanted_after tasks before ≡ Do step.op) × Answers step.op step.reply × EachIsWanted tasks before

-- the task list's words for the same

abbrev pub hand : TaskList → Option Task
hand list = task_at (tasks_of list.work) list.met list.fault

abbrev pub wants : TaskList → Next (Option ProvisionFault)
wants list = wants_by list.fault (hand list)

abbrev pub list_at : Work → Standing → TaskList
list_at work stands = record { work = work; met = stands.0; fault = stands.1 }

abbrev pub after_reply : TaskList → Reply → TaskList
after_reply list reply = list_at list.work (told_at (hand list) (list.met, list.fault) reply)

-- it was told these steps of its own
pub record IsTold (own : History) (list : TaskList) : Type 0 where
  pub stands : ◌≡◌ {A = Standing} (standing (tasks_of list.work) own) (list.met, list.fault)
  pub each : EachIsWanted (tasks_of list.work) own

-- they end so: all tasks were met, or the fault was found
pub record EndsList (tasks : List Task) (own : History) (end : Option ProvisionFault) : Type 0 where
  pub each : EachIsWanted tasks own
  pub none : hand_after tasks own ≡ None
  pub fault : (standing tasks own).1 ≡ end

-- a task is in hand
pub record GoesOnList (tasks : List Task) (own : History) : Type 0 where
  pub each : EachIsWanted tasks own
  pub task : Task
  pub some : hand_after tasks own ≡ Some task

-- a task list on confirmed pages
abbrev pub OnTasks : Type 0
OnTasks = OnPage TaskList

-- within the steps that a procedure may make
abbrev pub Procedure : Type 0
Procedure = Within OnTasks

abbrev pub on_page_of : TaskList → KnownPage → Bool → OnTasks
on_page_of list selection doubts = record { conversation = list; selection = selection; taken = None; doubts = doubts }

abbrev pub procedure_of : TaskList → KnownPage → ℕ → Procedure
procedure_of list selection steps = record { conversation = on_page_of list selection false; steps = steps; limit = most_steps }

-- for a real bus
abbrev pub PatientProcedure : Type 0
PatientProcedure = Patient OnTasks

abbrev pub patient_by : Bool → TaskList → KnownPage → Patience → Bool → ℕ → ℕ → PatientProcedure
patient_by doubts list selection patience due idle steps =
    record { conversation = record { conversation = on_page_of list selection doubts; patience = patience; due = due; idle = idle }; steps = steps; limit = most_steps }

-- it doubts
abbrev pub patient_of : TaskList → KnownPage → Patience → Bool → ℕ → ℕ → PatientProcedure
patient_of list selection patience due idle steps = patient_by true list selection patience due idle steps

-- its tasks' own events, with selections added
abbrev pub WithOwn : Bool → Work → (Events → Type 0) → Events → Type 0
WithOwn doubts work P events = WithSelections doubts false (λ own. Some BankAndPage) (λ own. needed_after (tasks_of work) (steps_of own)) P events

-- so it ended, and so it goes on
abbrev pub Ends : Bool → Work → Events → Option ProvisionFault → Type 0
Ends doubts work events fault = WithOwn doubts work (λ own. EndsList (tasks_of work) (steps_of own) fault) events

abbrev pub GoesOn : Bool → Work → Events → Type 0
GoesOn doubts work events = WithOwn doubts work (λ own. GoesOnList (tasks_of work) (steps_of own)) events

-- what is wanted on pages, and that these events were told there
abbrev pub tasks_want : OnTasks → Next (Option ProvisionFault)
tasks_want on = next_on BankAndPage on.selection (page_by (hand on.conversation)) (wants on.conversation)

abbrev pub tasks_told : Events → OnTasks → Type 0
tasks_told events on =
    Knows false (Some BankAndPage) on.selection on.taken (trusted on.doubts (steps_of events))
    × WithOwn on.doubts on.conversation.work (λ own. IsTold (steps_of own) on.conversation) events

-- the procedure was told these events
abbrev pub ToldProcedure : Events → Procedure → Type 0
ToldProcedure events procedure =
    tasks_told events procedure.conversation × (length (steps_of events) ≡ procedure.steps) × (procedure.steps ≤ procedure.limit)

abbrev pub ToldPatient : Events → PatientProcedure → Type 0
ToldPatient events procedure = ToldPatiently tasks_want tasks_told events procedure

-- the procedure is one of these tasks, and was told these steps, the newest first, between pauses or none
pub record IsAt (tasks : List Task) (history : History) (procedure : Procedure) : Type 0 where
  pub has : tasks_of procedure.conversation.conversation.work ≡ tasks
  pub limit : procedure.limit ≡ most_steps
  pub trusts : procedure.conversation.doubts ≡ false
  pub events : Events
  pub made : steps_of events ≡ history
  pub told : ToldProcedure events procedure

-- after these steps comes the operation
pub record GoesOnBy (tasks : List Task) (history : History) (op : Op) : Type 0 where
  pub each : EachIsNext tasks history
  pub answers : EachAnswers history
  pub next : option_map (next_operation history) (in_hand tasks history) ≡ Some op
  pub goes_on : EachGoesOn tasks history
  pub fewer : length history < most_steps

-- what comes after these steps
abbrev pub Follows : List Task → History → Next (Spent (Option ProvisionFault)) → Type 0
Follows tasks history (Do op) = GoesOnBy tasks history op
Follows tasks history (Wait time) = ⊥
Follows tasks history (End spent) = HasEnded tasks history (answer_of spent)
