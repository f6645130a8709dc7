-- An operation of provisioning or activation brings it nearer to its end, or nothing came of it and it stands where it did.
use Rattle.std.proofs.Common.{◌≡◌, ◌⊎◌, inl, inr, ℕ, ◌+◌, ◌-◌, ◌*◌, ◌≤◌, Bool, true, false, Option, Some, None, refl, sym, ap, subst, ◌∙◌, arith}
use Rattle.bus_model.specs.declared.operation.Op.{Op}
use Rattle.bus_model.specs.declared.operation.Reply.{Reply}
use Rattle.bus_model.specs.Operations.{Answers}
use Rattle.conversations.specs.declared.next.Next.TheVariants.{Do}
use Rattle.conversations.specs.declared.on_page.OnPage.{OnPage}
use Rattle.conversations.specs.Selecting.{after_missing}
use Rattle.conversations.specs.Wanted.{op_of}
use Rattle.conversations.proofs.OnPageLaws.{Asks}
use Rattle.control_sets.specs.declared.procedures.procedure.TaskList.{TaskList}
use Rattle.control_sets.specs.Progress.{PatientProcedure, after_reply, hand, page_by}
use Rattle.control_sets.specs.Progress as progress
use Rattle.paged_memory.specs.declared.page_addressing.PageAddressing.TheVariants.{BankAndPage}
use Rattle.paged_memory.specs.KnownPages.{is_awaited, missing_page}
use Rattle.port_manager.specs.Jobs.{paged_tasks, procedure_after, procedure_wants}
use Rattle.port_manager.specs.Patients.{after_on, wants_on}
use Rattle.port_manager.proofs.LeftLaws.{left_of_tasks, task_wanted, tasks_counted}
use Rattle.port_manager.proofs.PageProgress.{gained, left_of}
use Rattle.port_manager.proofs.PatientLaws.{asked_on, kept_within, trusting_if}
use Rattle.sim_module.specs.declared.module.SimModule.{SimModule}
use Rattle.managed_module.specs.Managed.{HasHalves}
use Rattle.managed_module.proofs.Links.{Link, is_first, is_read, undoubted}
use Rattle.managed_module.proofs.OwnTasks.{reply_of}
use Rattle.managed_module.proofs.ProcedureSteps.{offset_of, task_elsewhere}
use Rattle.managed_module.proofs.Waits.{procedure_idles, task_answered}

module _ (sim : SimModule) (has : HasHalves sim) (job : PatientProcedure) (op : Op) (reply : Reply) (asks : op_of (procedure_wants job) ≡ Some op) (answers : Answers op reply) (gives : reply ≡ reply_of sim op)
    (link : Link paged_tasks job.conversation.conversation sim) where
  abbrev on : OnPage TaskList
  on = job.conversation.conversation

  abbrev list : TaskList
  list = on.conversation

  abbrev t : Asks BankAndPage on.selection (page_by (hand list)) (progress.wants list) op
  t = asked_on paged_tasks job op asks

  -- nothing came of the task's own operation
  abbrev pub IsWait : Type 0
  IsWait = (progress.wants list ≡ Do op) × (after_reply list reply ≡ list)

  abbrev left_on : OnPage TaskList → ℕ
  left_on after = 3 * left_of_tasks after.conversation - gained after.selection (page_by (hand after.conversation))

  -- no page was selected then
  no_selection : IsWait → offset_of op ≡ 126 → ⊥
  no_selection wait place =
      let found = task_wanted list.work list.met list.fault (hand list) op refl wait.0 in
      task_elsewhere found.1.0 (ap offset_of found.1.2 ∙ place)

  missing_left : (missing : Option ℕ) → missing_page on.selection (page_by (hand list)) ≡ missing → is_awaited on.selection ≡ false → IsWait → left_on (trusting_if false paged_tasks on reply) ≤ left_on on
  missing_left None m closed wait =
      subst (λ (missing : Option ℕ). left_on (after_missing after_reply false missing on reply) ≤ left_on on) (sym m)
      (subst (λ (l : TaskList). 3 * left_of_tasks l - gained on.selection (page_by (hand l)) ≤ left_on on) (sym wait.1) (omega arith))
  missing_left (Some page) m closed wait = absurd (no_selection wait (ap offset_of (is_first paged_tasks on t.inner op sim has refl t.is (Some page) closed m)))

  left_by : (awaited : Bool) → is_awaited on.selection ≡ awaited → IsWait → left_on (trusting_if awaited paged_tasks on reply) ≤ left_on on
  left_by true e wait = absurd (no_selection wait (ap offset_of (is_read paged_tasks on t.inner op sim has refl t.is e)))
  left_by false e wait = missing_left (missing_page on.selection (page_by (hand list))) refl e wait

  waited_left : IsWait → left_of paged_tasks left_of_tasks tasks_counted (procedure_after job reply) ≤ left_of paged_tasks left_of_tasks tasks_counted job
  waited_left wait =
      kept_within (λ (after : OnPage TaskList). left_on after ≤ left_on on) (wants_on paged_tasks) (after_on paged_tasks) job reply
      (subst (λ (after : OnPage TaskList). left_on after ≤ left_on on) (sym (undoubted paged_tasks on t.inner op sim has refl t.is reply (task_answered sim has job op reply asks answers gives link)))
      (left_by (is_awaited on.selection) refl wait))

  -- with what is left to be waited for it is nearer in either case
  pub nearer_by : (less more : ℕ) → more ≤ less → (IsWait → more + 1 ≤ less)
      → left_of paged_tasks left_of_tasks tasks_counted (procedure_after job reply) + more + 1 ≤ left_of paged_tasks left_of_tasks tasks_counted job + less
  nearer_by less more fewer waits = by (procedure_idles sim has job op reply asks answers gives link) where
    by : (left_of paged_tasks left_of_tasks tasks_counted (procedure_after job reply) + 1 ≤ left_of paged_tasks left_of_tasks tasks_counted job) ⊎ IsWait
        → left_of paged_tasks left_of_tasks tasks_counted (procedure_after job reply) + more + 1 ≤ left_of paged_tasks left_of_tasks tasks_counted job + less
    by (inl nearer) = omega (arith, nearer, fewer)
    by (inr wait) = omega (arith, waited_left wait, waits wait)
