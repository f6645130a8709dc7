-- One operation of provisioning or of activation: its page is selected, or it is the task's own.
use Rattle.std.proofs.Common.{◌≡◌, ◌⊎◌, inl, inr, ℕ, ◌+◌, ◌*◌, ◌/◌, ◌%◌, ◌≤◌, ◌==◌, nat_lt, ltb-true, Bool, true, false, Option, Some, None, refl, sym, ap, subst, ◌∙◌, if◌then◌else◌, arith}
use Rattle.std.specs.Prelude.{slice_get}
use Rattle.std.proofs.lemmas.Bool.{eqb-true}
use Rattle.bus_model.specs.declared.device.Dev.{Dev}
use Rattle.bus_model.specs.declared.device.Dev.TheVariants.{A0}
use Rattle.bus_model.specs.declared.operation.Op.{Op}
use Rattle.bus_model.specs.declared.operation.Op.TheVariants.{Fetch, Store}
use Rattle.bus_model.specs.declared.operation.Reply.{Reply}
use Rattle.bus_model.specs.declared.operation.Reply.TheVariants.{Bytes, Refused}
use Rattle.bus_model.specs.Keeping.{IsKeptBy}
use Rattle.bus_model.specs.ScriptedBus.{passed_on}
use Rattle.conversations.specs.declared.next.Next.{Next}
use Rattle.conversations.specs.declared.next.Next.TheVariants.{Do}
use Rattle.conversations.specs.declared.on_page.OnPage.{OnPage}
use Rattle.conversations.specs.Selecting.{IsFetch, after_missing, lacked, told_lacked}
use Rattle.control_sets.specs.declared.fault.ProvisionFault.{ProvisionFault}
use Rattle.control_sets.specs.declared.procedures.judgement.ReplyJudgement.{ReplyJudgement}
use Rattle.control_sets.specs.declared.procedures.judgement.ReplyJudgement.TheVariants.{Met, NotYet, Fails}
use Rattle.control_sets.specs.declared.procedures.procedure.TaskList.{TaskList}
use Rattle.control_sets.specs.declared.procedures.procedure.Work.{Work}
use Rattle.control_sets.specs.declared.procedures.task.Task.{Task}
use Rattle.control_sets.specs.declared.procedures.task.Task.TheVariants as tasks
use Rattle.control_sets.specs.Judgements.{judgement}
use Rattle.control_sets.specs.OutcomeOperations.{CoversSelection}
use Rattle.control_sets.specs.Progress.{after_reply, hand, judged_at, list_at, page_by, task_at, tasks_of, told_at, wants}
use Rattle.control_sets.specs.Tasks.{operation}
use Rattle.paged_memory.specs.declared.page_addressing.KnownPage.{KnownPage}
use Rattle.paged_memory.specs.declared.page_addressing.KnownPage.TheVariants.{Open, Unknown, Page as Known}
use Rattle.paged_memory.specs.declared.page_addressing.PageAddressing.TheVariants.{BankAndPage}
use Rattle.paged_memory.specs.KnownPages.{is_awaited, is_known, missing_page, selecting_first, selection_read, selection_told, wanted}
use Rattle.paged_memory.specs.PageAddressing.{read_selection, selection}
use Rattle.port_manager.specs.Jobs.{paged_tasks}
use Rattle.port_manager.specs.Patients.{after_on}
use Rattle.port_manager.proofs.LeftLaws.{task_wanted}
use Rattle.port_manager.proofs.PatientLaws.{trusting_if}
use Rattle.sim_module.specs.declared.module.SimModule.{SimModule}
use Rattle.sim_module.specs.Modules.{conduct}
use Rattle.sim_module.specs.Ticks.{ticked}
use Rattle.sim_module.proofs.IdleModule.{Shows, shows_by, shows_kept}
use Rattle.sim_liveness.specs.Timing.{CountersRun}
use Rattle.sim_liveness.proofs.LeftAlone.{LeavesIt, leaves, leaves_selected}
use Rattle.managed_module.specs.Managed.{HasHalves}
use Rattle.managed_module.proofs.Halves.{shown}
use Rattle.managed_module.proofs.Links.{is_first, is_read, told_back, undoubted}
use Rattle.managed_module.proofs.OwnTasks.{OnItsPage, module_after, reply_of}
use Rattle.managed_module.proofs.Procedures.{Told, Unless}
use Rattle.managed_module.proofs.SteadyModules.{counters_passed, counters_tick}

-- ---- operations that change nothing of what moves

abbrev pub IsHarmless : Op → Type 0
IsHarmless op = ((dev : Dev) × (offset : ℕ) × (count : ℕ) × (op ≡ Fetch dev offset count)) ⊎ ((page : ℕ) × (op ≡ selection BankAndPage page))

pub harmless_leaves : (op : Op) (sim : SimModule) → IsHarmless op → LeavesIt sim (passed_on conduct op sim).1
harmless_leaves op sim (inl (dev, offset, count, is)) = subst (λ (op : Op). LeavesIt sim (passed_on conduct op sim).1) (sym is) (leaves sim dev offset count)
harmless_leaves op sim (inr (page, is)) = subst (λ (op : Op). LeavesIt sim (passed_on conduct op sim).1) (sym is) (leaves_selected sim (page / 256) (page % 256))

pub fetch_is_harmless : (op : Op) → IsFetch op → IsHarmless op
fetch_is_harmless (Fetch dev offset count) fetch = inl (dev, offset, count, refl)
fetch_is_harmless (Store dev offset bytes) fetch = absurd fetch

selecting_is_harmless : (op : Op) (missing : Option ℕ) → IsHarmless op → IsHarmless (selecting_first BankAndPage op missing)
selecting_is_harmless op None harmless = harmless
selecting_is_harmless op (Some page) harmless = inr (page, refl)

pub wanted_is_harmless : (awaited : Bool) (op : Op) (missing : Option ℕ) → IsHarmless op → IsHarmless (if awaited then read_selection BankAndPage else selecting_first BankAndPage op missing)
wanted_is_harmless true op missing harmless = inl (A0, 126, 2, refl)
wanted_is_harmless false op missing harmless = selecting_is_harmless op missing harmless

-- ---- the page that is known is mapped

abbrev pub KnownBy : KnownPage → SimModule → Type 0
KnownBy selected sim = (page : ℕ) → selected ≡ Known page → Shows page sim

pub known_tick : (selected : KnownPage) (sim : SimModule) → KnownBy selected sim → KnownBy selected (ticked sim)
known_tick selected sim known page e = (shows_kept page).tick sim (known page e)

kept_passed : (P : SimModule → Type 0) (op : Op) (sim : SimModule) → IsKeptBy conduct P op → P sim → P (passed_on conduct op sim).1
kept_passed P (Fetch dev offset count) sim keeps p = keeps sim p
kept_passed P (Store dev offset bytes) sim keeps p = keeps.0 sim p

pub known_passed : (selected : KnownPage) (op : Op) (sim : SimModule) → ¬ (CoversSelection op) → KnownBy selected sim → KnownBy selected (module_after sim op)
known_passed selected op sim apart known page e = (shows_kept page).tick (passed_on conduct op sim).1 (kept_passed (Shows page) op sim (shows_by page op apart) (known page e))

task_apart : (task : Task) → ¬ (CoversSelection (operation task))
task_apart tasks.FindReady covers = covers
task_apart (tasks.Deinitialize bits) covers = omega (arith, covers.0)
task_apart (tasks.AwaitDeactivated lanes) covers = covers
task_apart (tasks.Stage control) covers = omega (arith, covers.0)
task_apart (tasks.CheckStaged control) covers = covers
task_apart (tasks.Apply bits) covers = omega (arith, covers.0)
task_apart (tasks.AwaitApplied lanes) covers = covers
task_apart (tasks.CheckActive control) covers = covers
task_apart (tasks.AwaitActivated lanes) covers = covers

-- no task reads or selects a page
abbrev pub offset_of : Op → ℕ
offset_of (Fetch dev offset count) = offset
offset_of (Store dev offset bytes) = offset

pub task_elsewhere : (task : Task) → offset_of (operation task) ≡ 126 → ⊥
task_elsewhere tasks.FindReady e = omega (arith, e)
task_elsewhere (tasks.Deinitialize bits) e = omega (arith, e)
task_elsewhere (tasks.AwaitDeactivated lanes) e = omega (arith, e)
task_elsewhere (tasks.Stage control) e = omega (arith, e)
task_elsewhere (tasks.CheckStaged control) e = omega (arith, e)
task_elsewhere (tasks.Apply bits) e = omega (arith, e)
task_elsewhere (tasks.AwaitApplied lanes) e = omega (arith, e)
task_elsewhere (tasks.CheckActive control) e = omega (arith, e)
task_elsewhere (tasks.AwaitActivated lanes) e = omega (arith, e)

-- what is known by the selection that was read
read_known : (bank number page : ℕ) (byte : Bool) → nat_lt number 256 ≡ byte → (if byte then Known (256 * bank + number) else Unknown) ≡ Known page → (bank ≡ page / 256) × (number ≡ page % 256)
read_known bank number page true e is =
    let same : Known (256 * bank + number) ≡ Known page = is in
    let whole : 256 * bank + number ≡ page = cc in
    let below = ltb-true number 256 e in
    (omega (arith, whole, below), omega (arith, whole, below))
read_known bank number page false e is = absurd cc

pub known_read : (sim : SimModule) → KnownBy (selection_read BankAndPage (shown sim)) sim
known_read sim page e =
    let both = read_known sim.selection.bank sim.selection.page page (nat_lt sim.selection.page 256) refl e in
    record { bank = both.0; number = both.1 }

-- a page that is needed and not missing is known
pub known_page : (selected : KnownPage) (needed : Option ℕ) (page : ℕ) → missing_page selected needed ≡ None → needed ≡ Some page → selected ≡ Known page
known_page selected None page none e = absurd (let wrong : None ≡ Some page = e in cc)
known_page selected (Some other) page none e = let same : other ≡ page = cc in by selected refl ∙ ap (λ (n : ℕ). Known n) same where
  is_there : (known : Bool) → (if known then None else Some other) ≡ None → known ≡ true
  is_there true e = refl
  is_there false e = absurd cc

  by : (found : KnownPage) → selected ≡ found → selected ≡ Known other
  by Unknown is = absurd (let off : is_known selected other ≡ false = ap (λ (s : KnownPage). is_known s other) is in let wrong : false ≡ true = sym off ∙ is_there (is_known selected other) none in cc)
  by Open is = absurd (let off : is_known selected other ≡ false = ap (λ (s : KnownPage). is_known s other) is in let wrong : false ≡ true = sym off ∙ is_there (is_known selected other) none in cc)
  by (Known number) is =
      let on : (number == other) ≡ true = sym (ap (λ (s : KnownPage). is_known s other) is) ∙ is_there (is_known selected other) none in
      is ∙ ap (λ (n : ℕ). Known n) (eqb-true number other on)

pub told_same : (found : Option ℕ) (list : TaskList) → told_lacked (λ (list : TaskList) number. list) found list ≡ list
told_same None list = refl
told_same (Some number) list = refl

do_same : (one other : Op) → ◌≡◌ {A = Next (Option ProvisionFault)} (Do one) (Do other) → one ≡ other
do_same one other e = cc

-- ---- one operation

module _ (most : ℕ) (work : Work) (Phase : ℕ → SimModule → ℕ → Type 0)
    (waits : (met : ℕ) (sim : SimModule) (left : ℕ) → Phase met sim left → Phase met (ticked sim) left)
    (rests : (met : ℕ) (sim after : SimModule) (left : ℕ) → LeavesIt sim after → CountersRun most after → Phase met sim left → Phase met after left)
    (tells : (sim : SimModule) → HasHalves sim → (met : ℕ) (task : Task) (left : ℕ) → slice_get (tasks_of work) met ≡ Some task → Phase met sim left → OnItsPage task sim
    → (reply : Reply) → reply ≡ reply_of sim (operation task) → (judged : ReplyJudgement) → judgement task reply ≡ judged → Told Phase left met judged (module_after sim (operation task)))
    (sim : SimModule) (has : HasHalves sim) (run : CountersRun most sim) (left : ℕ) (on : OnPage TaskList) (inner op : Op) (reply : Reply)
    (same_work : on.conversation.work ≡ work) (known : KnownBy on.selection sim) (phase : Unless on.conversation.fault (Phase on.conversation.met sim left))
    (own : wants on.conversation ≡ Do inner) (is : op ≡ wanted BankAndPage on.selection (page_by (hand on.conversation)) inner) (gives : reply ≡ reply_of sim op) (answered : reply ≡ Refused → ⊥) where
  abbrev list : TaskList
  list = on.conversation

  -- nothing came of the task's own operation
  abbrev pub IsOwnWait : Type 0
  IsOwnWait = (wants list ≡ Do op) × (after_reply list reply ≡ list)

  pub record IsStep (conversation : TaskList) (selected : KnownPage) : Type 0 where
    pub same : conversation.work ≡ work
    pub mapped : KnownBy selected (module_after sim op)
    pub counters : CountersRun most (module_after sim op)
    pub less : ℕ
    pub at : Unless conversation.fault (Phase conversation.met (module_after sim op) less)
    pub fewer : less ≤ left
    pub idles : IsOwnWait → less + 1 ≤ left

  run_on : CountersRun most (module_after sim op)
  run_on = counters_tick most (passed_on conduct op sim).1 (counters_passed most op sim run)

  found : (list.fault ≡ None) × ((task : Task) × (slice_get (tasks_of list.work) list.met ≡ Some task) × (operation task ≡ inner))
  found = task_wanted list.work list.met list.fault (hand list) inner refl own

  abbrev task : Task
  task = found.1.0

  in_hand : Phase list.met sim left
  in_hand = subst (λ (fault : Option ProvisionFault). Unless fault (Phase list.met sim left)) found.0 phase

  -- ---- a page is selected

  elsewhere : offset_of op ≡ 126 → IsOwnWait → ⊥
  elsewhere place wait =
      let same : inner ≡ op = do_same inner op (sym own ∙ wait.0) in
      task_elsewhere task (ap offset_of (found.1.2 ∙ same) ∙ place)

  selecting : (selected : KnownPage) → IsHarmless op → offset_of op ≡ 126 → KnownBy selected (module_after sim op) → IsStep list selected
  selecting selected harmless place now = record {
    same = same_work;
    mapped = now;
    counters = run_on;
    less = left;
    at = subst (λ (fault : Option ProvisionFault). Unless fault (Phase list.met (module_after sim op) left)) (sym found.0)
        (waits list.met (passed_on conduct op sim).1 left (rests list.met sim (passed_on conduct op sim).1 left (harmless_leaves op sim harmless) (counters_passed most op sim run) in_hand));
    fewer = omega arith;
    idles = λ wait. absurd (elsewhere place wait);
  }

  -- ---- the task's own operation

  -- the list after the reply
  told_list : after_reply list reply ≡ list_at list.work (judged_at (list.met, None) (judgement task reply))
  told_list =
      ap (λ (fault : Option ProvisionFault). list_at list.work (told_at (task_at (tasks_of list.work) list.met fault) (list.met, fault) reply)) found.0
      ∙ ap (λ (hand : Option Task). list_at list.work (told_at hand (list.met, None) reply)) found.1.1

  working_by : (judged : ReplyJudgement) → judgement task reply ≡ judged → after_reply list reply ≡ list_at list.work (judged_at (list.met, None) judged) → KnownBy on.selection (module_after sim op)
      → Told Phase left list.met judged (module_after sim op) → IsStep (list_at list.work (judged_at (list.met, None) judged)) on.selection
  working_by Met j is now told = record {
    same = same_work;
    mapped = now;
    counters = run_on;
    less = left;
    at = told;
    fewer = omega arith;
    idles = λ wait. absurd (let more : list.met + 1 ≡ list.met = ap (λ (l : TaskList). l.met) (sym is ∙ wait.1) in omega (arith, more));
  }
  working_by NotYet j is now (less, told, fewer) = record { same = same_work; mapped = now; counters = run_on; less = less; at = told; fewer = omega (arith, fewer); idles = λ wait. fewer }
  working_by (Fails fault) j is now told = record {
    same = same_work;
    mapped = now;
    counters = run_on;
    less = left;
    at = tt;
    fewer = omega arith;
    idles = λ wait. absurd (let some : Some fault ≡ None = ap (λ (l : TaskList). l.fault) (sym is ∙ wait.1) ∙ found.0 in cc);
  }

  working : op ≡ inner → missing_page on.selection (page_by (hand list)) ≡ None → IsStep (after_reply list reply) on.selection
  working same none =
      let its : op ≡ operation task = same ∙ sym found.1.2 in
      let apart : ¬ (CoversSelection op) = subst (λ (op : Op). ¬ (CoversSelection op)) (sym its) (task_apart task) in
      let handed : hand list ≡ Some task = ap (λ (fault : Option ProvisionFault). task_at (tasks_of list.work) list.met fault) found.0 ∙ found.1.1 in
      let page : OnItsPage task sim = λ page needs. known page (known_page on.selection (page_by (hand list)) page none (ap page_by handed ∙ needs)) in
      let told : Told Phase left list.met (judgement task reply) (module_after sim op) =
      subst (λ (op : Op). Told Phase left list.met (judgement task reply) (module_after sim op)) (sym its)
      (tells sim has list.met task left (ap (λ (work : Work). slice_get (tasks_of work) list.met) (sym same_work) ∙ found.1.1) in_hand page reply (gives ∙ ap (reply_of sim) its) (judgement task reply) refl) in
      subst (λ (l : TaskList). IsStep l on.selection) (sym told_list) (working_by (judgement task reply) refl told_list (known_passed on.selection op sim apart known) told)

  -- ---- either

  abbrev after : OnPage TaskList → Type 0
  after next = IsStep next.conversation next.selection

  abbrev after_missing_of : Option ℕ → OnPage TaskList
  after_missing_of missing = after_missing after_reply false missing on reply

  missing_by : (missing : Option ℕ) → missing_page on.selection (page_by (hand list)) ≡ missing → is_awaited on.selection ≡ false → after (trusting_if false paged_tasks on reply)
  missing_by None m closed =
      subst (λ (missing : Option ℕ). IsStep (after_missing_of missing).conversation (after_missing_of missing).selection) (sym m) (working (is_first paged_tasks on inner op sim has refl is None closed m) m)
  missing_by (Some page) m closed =
      let first : op ≡ selection BankAndPage page = is_first paged_tasks on inner op sim has refl is (Some page) closed m in
      subst (λ (missing : Option ℕ). IsStep (after_missing_of missing).conversation (after_missing_of missing).selection) (sym m) (selecting Open (inr (page, first)) (ap offset_of first) (λ page e. absurd cc))

  awaited_by : is_awaited on.selection ≡ true → after (trusting_if true paged_tasks on reply)
  awaited_by awaited =
      let read : op ≡ read_selection BankAndPage = is_read paged_tasks on inner op sim has refl is awaited in
      let back : reply ≡ Bytes (record { items = shown sim }) = told_back paged_tasks on inner op sim has refl is reply gives awaited in
      let now : KnownBy (selection_told BankAndPage on.selection reply) (module_after sim op) =
      subst (λ (reply : Reply). KnownBy (selection_told BankAndPage on.selection reply) (module_after sim op)) (sym back)
      (known_passed (selection_read BankAndPage (shown sim)) op sim (subst (λ (op : Op). ¬ (CoversSelection op)) (sym read) (λ covers. covers)) (known_read sim)) in
      subst (λ (l : TaskList). IsStep l (selection_told BankAndPage on.selection reply)) (sym (told_same (lacked BankAndPage (page_by (hand list)) on.taken reply) list))
      (selecting (selection_told BankAndPage on.selection reply) (inl (A0, 126, 2, read)) (ap offset_of read) now)

  step_by : (awaited : Bool) → is_awaited on.selection ≡ awaited → after (trusting_if awaited paged_tasks on reply)
  step_by true e = awaited_by e
  step_by false e = missing_by (missing_page on.selection (page_by (hand list))) refl e

  pub step : after (after_on paged_tasks on reply)
  step = subst after (sym (undoubted paged_tasks on inner op sim has refl is reply answered)) (step_by (is_awaited on.selection) refl)
