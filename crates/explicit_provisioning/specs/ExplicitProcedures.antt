-- Provisioning with settings on a real bus: settings are staged, the tasks of provisioning are done, and the active settings are compared.
-- What it does and answers, by the events that it makes there. (docs/lanes.md, "Signal integrity settings"; this project's own)
use Rattle.std.specs.Prelude.{◌≡◌, ◌⊎◌, ◌<◌, ℕ, Bool, true, false, List, Option, Some, None, is_none, length, Result, Ok, Err}
use Rattle.std.specs.Option.{option_map}
use Rattle.conversations.specs.declared.on_page.OnPage.{OnPage}
use Rattle.conversations.specs.declared.pausing.Patience.{Patience}
use Rattle.conversations.specs.declared.pausing.Timed.{Timed}
use Rattle.conversations.specs.declared.pausing.Timed.TheVariants.{InTime, Overdue}
use Rattle.conversations.specs.declared.watching.Look.TheVariants.{Seen}
use Rattle.conversations.specs.declared.watching.Watched.{Watched}
use Rattle.conversations.specs.declared.watching.Watched.TheVariants as watched
use Rattle.conversations.specs.declared.watching.Watching.{Watching}
use Rattle.conversations.specs.declared.within.Spent.{Spent}
use Rattle.conversations.specs.declared.within.Within.{Within}
use Rattle.conversations.specs.Budgets.{HasSpent}
use Rattle.conversations.specs.Carried.{IsCarriedOut}
use Rattle.conversations.specs.Events.{Events, steps_of}
use Rattle.conversations.specs.Patiently.{Patient}
use Rattle.conversations.specs.Pauses.{EndsPausing, GoesOnPausing}
use Rattle.conversations.specs.Selecting.{WithSelections}
use Rattle.conversations.specs.Watching.{EndsWatching, GoesOnWatching}
use Rattle.paged_memory.specs.declared.page_addressing.KnownPage.TheVariants.{Unknown}
use Rattle.paged_memory.specs.declared.page_addressing.PageAddressing.TheVariants.{BankAndPage}
use Rattle.control_sets.specs.declared.fault.ProvisionFault.{ProvisionFault}
use Rattle.control_sets.specs.declared.fault.ProvisionFault.TheVariants.{GaveUp}
use Rattle.control_sets.specs.declared.procedures.patient.PatientFault.TheVariants as patient
use Rattle.control_sets.specs.declared.procedures.procedure.TaskList.{TaskList}
use Rattle.control_sets.specs.declared.procedures.procedure.Work.{Work}
use Rattle.control_sets.specs.OutcomeAnswers.{most_steps}
use Rattle.control_sets.specs.PatientProcedures.{left_by, most_with_looks}
use Rattle.control_sets.specs.Progress.{EndsList, GoesOnList, list_at, needed_after, tasks_of, wanted_after}
use Rattle.lane_controls.specs.declared.settings_change.SettingsChange.{SettingsChange}
use Rattle.explicit_provisioning.specs.declared.comparing.ComparingSettings.{ComparingSettings}
use Rattle.explicit_provisioning.specs.declared.fault.ExplicitFault.{ExplicitFault}
use Rattle.explicit_provisioning.specs.declared.fault.ExplicitFault.TheVariants as fault
use Rattle.explicit_provisioning.specs.declared.fault.ExplicitFailure.{ExplicitFailure}
use Rattle.explicit_provisioning.specs.declared.fault.ExplicitFailure.TheVariants as failure
use Rattle.explicit_provisioning.specs.declared.following.Sequel.{Sequel}
use Rattle.explicit_provisioning.specs.declared.following.Sequel.TheVariants.{Early, Late}
use Rattle.explicit_provisioning.specs.declared.following.Then.{Then}
use Rattle.explicit_provisioning.specs.declared.staging.StagingSettings.{StagingSettings}
use Rattle.explicit_provisioning.specs.Comparing.{ComparingEnds, ComparingGoesOn, comparing_needs}
use Rattle.explicit_provisioning.specs.Comparing as comparing
use Rattle.explicit_provisioning.specs.Following.{EndsThen, GoesOnThen, ends_so, needs_then}
use Rattle.explicit_provisioning.specs.Staging.{StagingEnds, StagingGoesOn, is_staged, staging_needs}
use Rattle.explicit_provisioning.specs.Staging as staging

-- ---- the tasks of provisioning

-- all were met
abbrev pub tasks_over : Work → Events → Bool
tasks_over work events = ends_so is_none (wanted_after (tasks_of work) (steps_of events))

abbrev pub tasks_need : Work → Events → Option ℕ
tasks_need work events = needed_after (tasks_of work) (steps_of events)

abbrev pub TasksEnd : Work → Events → Option ProvisionFault → Type 0
TasksEnd work events fault = EndsList (tasks_of work) (steps_of events) fault

abbrev pub TasksGoOn : Work → Events → Type 0
TasksGoOn work events = GoesOnList (tasks_of work) (steps_of events)

-- ---- the three conversations, one after another

abbrev pub ExplicitEnd : Type 0
ExplicitEnd = Sequel (Option ExplicitFault) (Sequel (Option ProvisionFault) (Option ExplicitFault))

-- after staging
abbrev pub RestEnds : SettingsChange → Work → Events → Sequel (Option ProvisionFault) (Option ExplicitFault) → Type 0
RestEnds change work events end = EndsThen (tasks_over work) is_none (TasksEnd work) (ComparingEnds change) events end

abbrev pub RestGoesOn : SettingsChange → Work → Events → Type 0
RestGoesOn change work events = GoesOnThen (tasks_over work) is_none (TasksEnd work) (TasksGoOn work) (ComparingGoesOn change) events

abbrev pub rest_needs : SettingsChange → Work → Events → Option ℕ
rest_needs change work events = needs_then (tasks_over work) (tasks_need work) (comparing_needs change) events

-- from the beginning
abbrev pub OwnEnds : SettingsChange → Work → Events → ExplicitEnd → Type 0
OwnEnds change work events end = EndsThen (is_staged change) is_none (StagingEnds change) (RestEnds change work) events end

abbrev pub OwnGoesOn : SettingsChange → Work → Events → Type 0
OwnGoesOn change work events = GoesOnThen (is_staged change) is_none (StagingEnds change) (StagingGoesOn change) (RestGoesOn change work) events

abbrev pub needs : SettingsChange → Work → Events → Option ℕ
needs change work events = needs_then (is_staged change) (staging_needs change) (rest_needs change work) events

-- ---- on confirmed pages, by those who doubt after a refusal

abbrev pub WithOwn : SettingsChange → Work → (Events → Type 0) → Events → Type 0
WithOwn change work P events = WithSelections true false (λ own. Some BankAndPage) (needs change work) P events

abbrev pub Ends : SettingsChange → Work → Events → ExplicitEnd → Type 0
Ends change work events end = WithOwn change work (λ own. OwnEnds change work own end) events

abbrev pub GoesOn : SettingsChange → Work → Events → Type 0
GoesOn change work events = WithOwn change work (λ own. OwnGoesOn change work own) events

-- ---- with pauses, and looks at the module's state

abbrev pub GoesOnPatiently : Patience → SettingsChange → Work → Events → Type 0
GoesOnPatiently patience change work own = GoesOnPausing patience (GoesOn change work) own × (length (steps_of own) < most_steps)

abbrev pub EndsPatiently : Patience → SettingsChange → Work → Events → Spent (Timed ExplicitEnd) → Type 0
EndsPatiently patience change work own spent =
    HasSpent most_steps (GoesOnPausing patience (GoesOn change work)) (EndsPausing patience (GoesOn change work) (Ends change work)) own spent

abbrev pub GoesOnWatched : Patience → SettingsChange → Work → Events → Type 0
GoesOnWatched patience change work events = GoesOnWatching true (GoesOnPatiently patience change work) events

abbrev pub EndsWatched : Patience → SettingsChange → Work → Events → Watched (Spent (Timed ExplicitEnd)) → Type 0
EndsWatched patience change work events end = EndsWatching true (GoesOnPatiently patience change work) (EndsPatiently patience change work) events end

-- ---- what is answered

-- why it failed, if it did
abbrev pub fault_of : ExplicitEnd → Option ExplicitFault
fault_of (Early found) = found
fault_of (Late (Early found)) = option_map fault.Provision found
fault_of (Late (Late found)) = found

abbrev pub failure_of : {F : Type 0} → ExplicitFault → ExplicitFailure F
failure_of (fault.Provision found) = failure.Provision (patient.Failed found)
failure_of fault.NotStaged = failure.NotStaged
failure_of (fault.NotActive lane) = failure.NotActive lane

-- the number of steps, or why it failed
abbrev pub answer_by : {F : Type 0} → ℕ → Option ExplicitFault → Result ℕ (ExplicitFailure F)
answer_by steps None = Ok steps
answer_by steps (Some found) = Err (failure_of found)

abbrev pub answer_in_time : {F : Type 0} → ℕ → Option (Timed ExplicitEnd) → Result ℕ (ExplicitFailure F)
answer_in_time steps None = Err (failure.Provision (patient.Failed GaveUp))
answer_in_time steps (Some (InTime end)) = answer_by steps (fault_of end)
answer_in_time steps (Some Overdue) = Err (failure.Provision patient.Overdue)

abbrev pub answer_watched : {F : Type 0} → Option (Watched (Spent (Timed ExplicitEnd))) → Result ℕ (ExplicitFailure F)
answer_watched None = Err (failure.Provision (patient.Failed GaveUp))
answer_watched (Some (watched.InOrder spent)) = answer_in_time spent.steps spent.end
answer_watched (Some (watched.Left code)) = Err (failure.Provision (left_by code))

-- it was carried out so, and this was answered
abbrev pub IsExplicitWork : {F : Type 0} → Patience → SettingsChange → Work → Type 0 → (F → Type 0) → Events → Result ℕ (ExplicitFailure F) → Type 0
IsExplicitWork {F} patience change work same fails events answer =
    ((spent : Spent (Watched (Spent (Timed ExplicitEnd))))
    × IsCarriedOut {F = F} most_with_looks (GoesOnWatched patience change work) (EndsWatched patience change work) same fails events (Ok spent) × (answer ≡ answer_watched spent.end))
    ⊎ ((stopped : F)
    × IsCarriedOut {E = Watched (Spent (Timed ExplicitEnd))} most_with_looks (GoesOnWatched patience change work) (EndsWatched patience change work) same fails events (Err stopped)
    × (answer ≡ Err (failure.Provision (patient.Stopped stopped))))

-- ---- as it begins

abbrev pub ExplicitTasks : Type 0
ExplicitTasks = Then StagingSettings (Then TaskList ComparingSettings)

abbrev pub begun : SettingsChange → Work → ExplicitTasks
begun change work = record {
  first = record { change = change; stage = staging.begun };
  second = record { first = list_at work (0, None); second = record { change = change; stage = comparing.begun change } };
}

abbrev pub WatchfulTasks : Type 0
WatchfulTasks = Watching (Patient (OnPage ExplicitTasks))

abbrev pub watchful : SettingsChange → Work → Patience → WatchfulTasks
watchful change work patience = record {
  conversation = record {
    conversation = record {
      conversation = record { conversation = begun change work; selection = Unknown; taken = None; doubts = true };
      patience = patience;
      due = false;
      idle = 0;
    };
    steps = 0;
    limit = most_steps;
  };
  watches = true;
  look = Seen;
}
