-- Provisioning with settings on a bus: what it wants, and what a reply and a pause make of it. (docs/lanes.md, "From C and Python"; this
-- project's own)
use Rattle.std.specs.Prelude.{ℕ, Bool, false, is_none, Option}
use Rattle.bus_model.specs.declared.operation.Reply.{Reply}
use Rattle.conversations.specs.declared.next.Next.{Next}
use Rattle.conversations.specs.declared.on_page.OnPage.{OnPage}
use Rattle.conversations.specs.declared.pausing.Timed.{Timed}
use Rattle.conversations.specs.declared.watching.Watched.{Watched}
use Rattle.conversations.specs.declared.within.Spent.{Spent}
use Rattle.conversations.specs.Patiently.{after_patiently, paused, wants_patiently}
use Rattle.conversations.specs.Selecting.{next_on, on_after}
use Rattle.conversations.specs.Watching.{after_watching, look_after_wait, next_watching}
use Rattle.control_sets.specs.declared.fault.ProvisionFault.{ProvisionFault}
use Rattle.control_sets.specs.declared.procedures.procedure.TaskList.{TaskList}
use Rattle.control_sets.specs.Progress as tasks
use Rattle.explicit_provisioning.specs.declared.comparing.ComparingSettings.{ComparingSettings}
use Rattle.explicit_provisioning.specs.declared.fault.ExplicitFault.{ExplicitFault}
use Rattle.explicit_provisioning.specs.declared.following.Sequel.{Sequel}
use Rattle.explicit_provisioning.specs.declared.following.Then.{Then}
use Rattle.explicit_provisioning.specs.declared.staging.StagingSettings.{StagingSettings}
use Rattle.explicit_provisioning.specs.Comparing as comparing
use Rattle.explicit_provisioning.specs.ExplicitProcedures.{ExplicitEnd, ExplicitTasks, WatchfulTasks}
use Rattle.explicit_provisioning.specs.Following.{after_then, ends_so, lacking_then, next_then, page_then}
use Rattle.explicit_provisioning.specs.Staging as staging
use Rattle.paged_memory.specs.declared.page_addressing.PageAddressing.TheVariants.{BankAndPage}

-- ---- the tasks, and comparing once they are met

abbrev pub Rest : Type 0
Rest = Then TaskList ComparingSettings

abbrev pub are_met : Rest → Bool
are_met it = ends_so is_none (tasks.wants it.first)

abbrev pub rest_wants : Rest → Next (Sequel (Option ProvisionFault) (Option ExplicitFault))
rest_wants it = next_then (are_met it) (tasks.wants it.first) (comparing.wants it.second.stage)

abbrev pub rest_page : Rest → Option ℕ
rest_page it = page_then (are_met it) (tasks.page_by (tasks.hand it.first)) (comparing.page_at it.second.stage)

abbrev pub comparing_after : ComparingSettings → Reply → ComparingSettings
comparing_after it reply = record it { stage = comparing.after it.change it.stage reply }

abbrev pub rest_after : Rest → Reply → Rest
rest_after it reply = after_then (are_met it) tasks.after_reply comparing_after it reply

-- no page is lacked
abbrev pub as_was : {C : Type 0} → C → ℕ → C
as_was it number = it

abbrev pub rest_lacking : Rest → ℕ → Rest
rest_lacking it number = lacking_then (are_met it) as_was as_was it number

-- ---- staging first

abbrev pub is_staged : ExplicitTasks → Bool
is_staged it = ends_so is_none (staging.wants it.first.stage)

abbrev pub own_wants : ExplicitTasks → Next ExplicitEnd
own_wants it = next_then (is_staged it) (staging.wants it.first.stage) (rest_wants it.second)

abbrev pub own_page : ExplicitTasks → Option ℕ
own_page it = page_then (is_staged it) (staging.page_at it.first.stage) (rest_page it.second)

abbrev pub staging_after : StagingSettings → Reply → StagingSettings
staging_after it reply = record it { stage = staging.after it.change it.stage reply }

abbrev pub own_after : ExplicitTasks → Reply → ExplicitTasks
own_after it reply = after_then (is_staged it) staging_after rest_after it reply

abbrev pub own_lacking : ExplicitTasks → ℕ → ExplicitTasks
own_lacking it number = lacking_then (is_staged it) as_was rest_lacking it number

-- ---- on confirmed pages, with pauses and looks

abbrev pub wants_on : OnPage ExplicitTasks → Next ExplicitEnd
wants_on on = next_on BankAndPage on.selection (own_page on.conversation) (own_wants on.conversation)

abbrev pub after_on : OnPage ExplicitTasks → Reply → OnPage ExplicitTasks
after_on on reply = on_after own_after own_lacking false BankAndPage (own_page on.conversation) on reply

abbrev pub wants : WatchfulTasks → Next (Watched (Spent (Timed ExplicitEnd)))
wants it = next_watching it.look (wants_patiently wants_on it.conversation)

abbrev pub after : WatchfulTasks → Reply → WatchfulTasks
after it reply = after_watching (wants_patiently wants_on) (after_patiently wants_on after_on) it reply

-- a pause is over
abbrev pub after_pause : WatchfulTasks → WatchfulTasks
after_pause it = record { conversation = paused it.conversation; watches = it.watches; look = look_after_wait it.watches it.look }
