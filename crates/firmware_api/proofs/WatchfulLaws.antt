-- A procedure that looks at the module's state, after a reply: what holds of it before and after its own replies.
use Rattle.std.proofs.Common.{ℕ, Bool, true, false, Option, Some, None, if◌then◌else◌}
use Rattle.bus_model.specs.declared.operation.Reply.{Reply}
use Rattle.bus_model.specs.declared.operation.Reply.TheVariants.{Refused}
use Rattle.conversations.specs.declared.watching.Look.{Look}
use Rattle.conversations.specs.declared.watching.Look.TheVariants.{Seen}
use Rattle.conversations.specs.Patiently.{after_patiently, wants_patiently}
use Rattle.conversations.specs.Watching.{is_looking, look_at, looked, shown}
use Rattle.control_sets.specs.PatientProcedures.{WatchfulProcedure}
use Rattle.control_sets.specs.Progress.{tasks_want}
use Rattle.port_manager.specs.Jobs.{paged_tasks}
use Rattle.port_manager.specs.Patients.{after_on}
use Rattle.firmware_api.specs.KeptConversations.{watchful_after}

module _ (it : WatchfulProcedure) (reply : Reply) (P : WatchfulProcedure → Type 0)
    (same : (look : Look) → P (record { conversation = it.conversation; watches = it.watches; look = look }))
    (told : (r : Reply) (look : Look) → P (record { conversation = after_patiently tasks_want (after_on paged_tasks) it.conversation r; watches = it.watches; look = look })) where
  looked_by : (found : Option ℕ) → P (looked (after_patiently tasks_want (after_on paged_tasks)) it found)
  looked_by (Some code) = same (look_at code)
  looked_by None = told Refused Seen

  by_looking : (looking : Bool) → P (if looking then looked (after_patiently tasks_want (after_on paged_tasks)) it (shown reply) else record { conversation = after_patiently tasks_want (after_on paged_tasks) it.conversation reply; watches = it.watches; look = Seen })
  by_looking true = looked_by (shown reply)
  by_looking false = told reply Seen

  pub watchful_by : P (watchful_after it reply)
  watchful_by = by_looking (is_looking it.look (wants_patiently tasks_want it.conversation))
