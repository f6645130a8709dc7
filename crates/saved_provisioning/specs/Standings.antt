-- What stays so in provisioning with settings that C keeps, and where its tasks stand. (docs/lanes.md, "From C and Python"; this
-- project's own)
use Rattle.std.specs.Prelude.{◌≡◌, ◌⊎◌, ◌≤◌, true, Some, None}
use Rattle.bus_model.specs.declared.operation.Reply.{Reply}
use Rattle.control_sets.specs.declared.procedures.procedure.saved.SavedProcedure.{SavedProcedure}
use Rattle.control_sets.specs.declared.procedures.procedure.TaskList.{TaskList}
use Rattle.control_sets.specs.OutcomeAnswers.{most_steps}
use Rattle.control_sets.specs.Progress.{PatientProcedure, after_reply, tasks_of}
use Rattle.control_sets.specs.SavedNumbers.{can_stand, fault_in, work_numbered}
use Rattle.explicit_provisioning.specs.ExplicitProcedures.{WatchfulTasks}

-- its tasks alone
abbrev pub list_of : WatchfulTasks → TaskList
list_of it = it.conversation.conversation.conversation.conversation.second.first

-- a procedure of these, as far as it has come
abbrev pub tasks_in : WatchfulTasks → PatientProcedure
tasks_in it =
    let pausing = it.conversation.conversation in
    let on = pausing.conversation in
    record {
      conversation = record {
        conversation = record { conversation = list_of it; selection = on.selection; taken = on.taken; doubts = on.doubts };
        patience = pausing.patience;
        due = pausing.due;
        idle = pausing.idle;
      };
      steps = it.conversation.steps;
      limit = it.conversation.limit;
    }

-- it looks and doubts, makes no more steps than may be, lacks no page, and compares the settings that it stages
pub record IsUsual (it : WatchfulTasks) : Type 0 where
  pub watches : it.watches ≡ true
  pub limit : it.conversation.limit ≡ most_steps
  pub few : it.conversation.steps ≤ most_steps
  pub doubts : it.conversation.conversation.conversation.doubts ≡ true
  pub taken : it.conversation.conversation.conversation.taken ≡ None
  pub change : it.conversation.conversation.conversation.conversation.second.second.change ≡ it.conversation.conversation.conversation.conversation.first.change

-- these are the numbers of the tasks, which can have come so far
pub record StandsFor (numbers : SavedProcedure) (list : TaskList) : Type 0 where
  pub work : work_numbered numbers.work numbers.control numbers.lanes ≡ Some list.work
  pub met : numbers.met ≡ list.met
  pub fault : fault_in numbers.fault ≡ Some list.fault
  pub can : can_stand (tasks_of list.work) list.met list.fault ≡ true

-- they are as they were, or were told a reply
abbrev pub CameFrom : TaskList → TaskList → Type 0
CameFrom before after = (after ≡ before) ⊎ ((reply : Reply) × (after ≡ after_reply before reply))
