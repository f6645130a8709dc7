-- One operation of a list of tasks on a module where each task is met or waits: no fault is found.
use Rattle.std.proofs.Common.{◌≡◌, inl, inr, ℕ, Bool, true, false, Option, Some, None, refl, sym, ap, subst, ◌∙◌}
use Rattle.std.specs.Prelude.{slice_get}
use Rattle.bus_model.specs.declared.device.Dev.TheVariants.{A0}
use Rattle.bus_model.specs.declared.operation.Op.{Op}
use Rattle.bus_model.specs.declared.operation.Reply.{Reply}
use Rattle.bus_model.specs.declared.operation.Reply.TheVariants.{Refused}
use Rattle.conversations.specs.declared.next.Next.TheVariants.{Do}
use Rattle.conversations.specs.declared.on_page.OnPage.{OnPage}
use Rattle.conversations.specs.Selecting.{after_missing, lacked}
use Rattle.control_sets.specs.declared.fault.ProvisionFault.{ProvisionFault}
use Rattle.control_sets.specs.declared.procedures.judgement.ReplyJudgement.{ReplyJudgement}
use Rattle.control_sets.specs.declared.procedures.judgement.ReplyJudgement.TheVariants.{Met, NotYet, Fails}
use Rattle.control_sets.specs.declared.procedures.procedure.TaskList.{TaskList}
use Rattle.control_sets.specs.declared.procedures.procedure.Work.{Work}
use Rattle.control_sets.specs.declared.procedures.task.Task.{Task}
use Rattle.control_sets.specs.Judgements.{judgement}
use Rattle.control_sets.specs.Progress.{after_reply, hand, judged_at, list_at, page_by, task_at, tasks_of, told_at, wants}
use Rattle.control_sets.specs.Tasks.{operation}
use Rattle.paged_memory.specs.declared.page_addressing.PageAddressing.TheVariants.{BankAndPage}
use Rattle.paged_memory.specs.KnownPages.{is_awaited, missing_page, wanted}
use Rattle.port_manager.specs.Jobs.{paged_tasks}
use Rattle.port_manager.specs.Patients.{after_on}
use Rattle.port_manager.proofs.LeftLaws.{task_wanted}
use Rattle.port_manager.proofs.PatientLaws.{trusting_if}
use Rattle.sim_module.specs.declared.module.SimModule.{SimModule}
use Rattle.managed_module.specs.Managed.{HasHalves}
use Rattle.managed_module.proofs.Links.{is_first, is_read, undoubted}
use Rattle.managed_module.proofs.PlanReplies.{Well}
use Rattle.managed_module.proofs.OwnTasks.{OnItsPage, module_after, reply_of}
use Rattle.managed_module.proofs.ProcedureSteps.{IsHarmless, KnownBy, known_page, told_same}

-- this work is in hand, without a fault
pub record IsFine (work : Work) (Phase : ℕ → SimModule → Type 0) (list : TaskList) (sim : SimModule) : Type 0 where
  pub same : list.work ≡ work
  pub none : list.fault ≡ None
  pub at : Phase list.met sim

module _ (work : Work) (Phase : ℕ → SimModule → Type 0) (sim : SimModule) (has : HasHalves sim) (rests : (op : Op) → IsHarmless op → (met : ℕ) → Phase met sim → Phase met (module_after sim op))
    (tells : (met : ℕ) (task : Task) → slice_get (tasks_of work) met ≡ Some task → Phase met sim → OnItsPage task sim
    → (reply : Reply) → reply ≡ reply_of sim (operation task) → (judged : ReplyJudgement) → judgement task reply ≡ judged → Well Phase met judged (module_after sim (operation task)))
    (on : OnPage TaskList) (inner op : Op) (reply : Reply) (fine : IsFine work Phase on.conversation sim) (known : KnownBy on.selection sim) (own : wants on.conversation ≡ Do inner)
    (is : op ≡ wanted BankAndPage on.selection (page_by (hand on.conversation)) inner) (gives : reply ≡ reply_of sim op) (answered : reply ≡ Refused → ⊥) where
  abbrev list : TaskList
  list = on.conversation

  abbrev Fine : TaskList → Type 0
  Fine list = IsFine work Phase list (module_after sim op)

  found : (list.fault ≡ None) × ((task : Task) × (slice_get (tasks_of list.work) list.met ≡ Some task) × (operation task ≡ inner))
  found = task_wanted list.work list.met list.fault (hand list) inner refl own

  abbrev task : Task
  task = found.1.0

  -- a page is selected
  selecting : IsHarmless op → Fine list
  selecting harmless = record { same = fine.same; none = fine.none; at = rests op harmless list.met fine.at }

  -- the task's own operation
  judged_fine : (judged : ReplyJudgement) → Well Phase list.met judged (module_after sim op) → Fine (list_at list.work (judged_at (list.met, None) judged))
  judged_fine Met well = record { same = fine.same; none = refl; at = well }
  judged_fine NotYet well = record { same = fine.same; none = refl; at = well }
  judged_fine (Fails fault) well = absurd well

  told_list : after_reply list reply ≡ list_at list.work (judged_at (list.met, None) (judgement task reply))
  told_list =
      ap (λ (fault : Option ProvisionFault). list_at list.work (told_at (task_at (tasks_of list.work) list.met fault) (list.met, fault) reply)) found.0
      ∙ ap (λ (hand : Option Task). list_at list.work (told_at hand (list.met, None) reply)) found.1.1

  working : op ≡ inner → missing_page on.selection (page_by (hand list)) ≡ None → Fine (after_reply list reply)
  working same none =
      let its : op ≡ operation task = same ∙ sym found.1.2 in
      let handed : hand list ≡ Some task = ap (λ (fault : Option ProvisionFault). task_at (tasks_of list.work) list.met fault) found.0 ∙ found.1.1 in
      let page : OnItsPage task sim = λ page needs. known page (known_page on.selection (page_by (hand list)) page none (ap page_by handed ∙ needs)) in
      let well : Well Phase list.met (judgement task reply) (module_after sim op) =
      subst (λ (op : Op). Well Phase list.met (judgement task reply) (module_after sim op)) (sym its)
      (tells list.met task (ap (λ (work : Work). slice_get (tasks_of work) list.met) (sym fine.same) ∙ found.1.1) fine.at page reply (gives ∙ ap (reply_of sim) its) (judgement task reply) refl) in
      subst Fine (sym told_list) (judged_fine (judgement task reply) well)

  -- either
  abbrev After : OnPage TaskList → Type 0
  After next = Fine next.conversation

  abbrev after_missing_of : Option ℕ → OnPage TaskList
  after_missing_of missing = after_missing after_reply false missing on reply

  missing_by : (missing : Option ℕ) → missing_page on.selection (page_by (hand list)) ≡ missing → is_awaited on.selection ≡ false → After (trusting_if false paged_tasks on reply)
  missing_by None m closed =
      subst (λ (missing : Option ℕ). After (after_missing_of missing)) (sym m) (working (is_first paged_tasks on inner op sim has refl is None closed m) m)
  missing_by (Some page) m closed =
      subst (λ (missing : Option ℕ). After (after_missing_of missing)) (sym m) (selecting (inr (page, is_first paged_tasks on inner op sim has refl is (Some page) closed m)))

  step_by : (awaited : Bool) → is_awaited on.selection ≡ awaited → After (trusting_if awaited paged_tasks on reply)
  step_by true e = subst Fine (sym (told_same (lacked BankAndPage (page_by (hand list)) on.taken reply) list)) (selecting (inl (A0, 126, 2, is_read paged_tasks on inner op sim has refl is e)))
  step_by false e = missing_by (missing_page on.selection (page_by (hand list))) refl e

  pub goes_fine : After (after_on paged_tasks on reply)
  goes_fine = subst After (sym (undoubted paged_tasks on inner op sim has refl is reply answered)) (step_by (is_awaited on.selection) refl)
