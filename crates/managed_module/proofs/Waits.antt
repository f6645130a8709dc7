-- At a simulated module each operation of a job brings it nearer to its end, or reads a state.
use Rattle.std.proofs.Common.{◌≡◌, ◌≤◌, ◌⊎◌, inl, inr, ◌+◌, ◌++◌, ◌∷◌, ℕ, Bool, true, false, List, [], Option, Some, None, zero, suc, refl, sym, ap, subst, ◌∙◌, if◌then◌else◌, arith}
use Rattle.std.specs.Prelude.{◌==◌, ◌&&◌, not, if◌then◌else◌, slice_get, slice_index}
use Rattle.std.specs.FinMap as finmap
use Rattle.std.specs.List.{AllByRecursion}
use Rattle.bus_model.specs.declared.device.Dev.TheVariants.{A0, A2}
use Rattle.bus_model.specs.declared.operation.Op.{Op}
use Rattle.bus_model.specs.declared.operation.Reply.{Reply}
use Rattle.bus_model.specs.declared.operation.Reply.TheVariants.{Bytes, Done, Refused}
use Rattle.bus_model.specs.Operations.{Answers}
use Rattle.bus_model.specs.ScriptedBus.{passed_on}
use Rattle.conversations.specs.declared.next.Next.TheVariants.{Do}
use Rattle.conversations.specs.declared.on_page.OnPage.{OnPage}
use Rattle.conversations.specs.Selecting.{chosen}
use Rattle.conversations.specs.Wanted.{op_of}
use Rattle.conversations.proofs.OnPageLaws.{Asks}
use Rattle.control_sets.specs.declared.fault.ProvisionFault.{ProvisionFault}
use Rattle.control_sets.specs.declared.procedures.judgement.ReplyJudgement.{ReplyJudgement}
use Rattle.control_sets.specs.declared.procedures.judgement.ReplyJudgement.TheVariants.{Met, NotYet, Fails}
use Rattle.control_sets.specs.declared.procedures.power.Power.{Power}
use Rattle.control_sets.specs.declared.procedures.power.PowerStage.{PowerStage}
use Rattle.control_sets.specs.declared.procedures.power.PowerStage.TheVariants as stage
use Rattle.control_sets.specs.declared.procedures.procedure.TaskList.{TaskList}
use Rattle.control_sets.specs.declared.procedures.procedure.Work.{Work}
use Rattle.control_sets.specs.declared.procedures.task.Task.{Task}
use Rattle.control_sets.specs.declared.procedures.task.Task.TheVariants as tasks
use Rattle.control_sets.specs.declared.fault.ProvisionFault.TheVariants.{ActiveDiffers, StagedDiffers}
use Rattle.control_sets.specs.Judgements.{differing_lane, judged, judgement, met_unless}
use Rattle.control_sets.specs.OutcomeOperations.{read_module_state}
use Rattle.control_sets.specs.PowerControls.{read_controls, set_controls, wanted_controls}
use Rattle.control_sets.specs.PowerProgress.{PatientPower, change_after, moved_to, operation_at, power_wants, stage_after, wants_by}
use Rattle.control_sets.specs.Progress.{PatientProcedure, after_reply, hand, judged_at, list_at, task_at, tasks_of, told_at}
use Rattle.control_sets.specs.Progress as progress
use Rattle.control_sets.specs.Tasks.{operation, page_of}
use Rattle.field_tables.specs.declared.field.Field.TheVariants as fields
use Rattle.field_tables.specs.declared.table.cmis.CmisField.TheVariants as cmis_fields
use Rattle.field_tables.specs.FieldValues.{number_in_byte}
use Rattle.module_reading.specs.declared.halves.Halves.{Halves}
use Rattle.module_reading.specs.declared.region.Region.{Region}
use Rattle.module_reading.specs.declared.request.Request.{Request}
use Rattle.module_reading.specs.declared.region.Region.TheVariants.{Lower, FirstPage, Page}
use Rattle.module_reading.specs.ImageReading as reader
use Rattle.module_reading.specs.Regions as regions
use Rattle.module_reading.proofs.RegionLaws.{all_requested, regions_of_halves}
use Rattle.paged_memory.specs.declared.family.Family.{Family}
use Rattle.paged_memory.specs.declared.family.Family.TheVariants.{Cmis}
use Rattle.paged_memory.specs.declared.page_addressing.KnownPage.{KnownPage}
use Rattle.paged_memory.specs.declared.page_addressing.PageAddressing.{PageAddressing}
use Rattle.paged_memory.specs.declared.page_addressing.PageAddressing.TheVariants.{BankAndPage}
use Rattle.paged_memory.specs.Families.{managed_by}
use Rattle.paged_memory.specs.Images.{Memory}
use Rattle.paged_memory.specs.Keys.{page_key}
use Rattle.paged_memory.specs.KnownPages.{is_awaited, missing_page, selecting_first, wanted}
use Rattle.paged_memory.specs.PageAddressing.{read_selection}
use Rattle.port_manager.specs.declared.deciding.Goal.{Goal}
use Rattle.port_manager.specs.declared.job.Job.{Job}
use Rattle.port_manager.specs.declared.job.Job.TheVariants as jobs
use Rattle.port_manager.specs.declared.look.Look.{Look}
use Rattle.port_manager.specs.declared.look.LookStage.{LookStage}
use Rattle.port_manager.specs.declared.look.LookStage.TheVariants as looking
use Rattle.port_manager.specs.Looks as looks
use Rattle.port_manager.specs.Jobs.{asked, look_after, look_wants, paged_halves, paged_look, paged_tasks, procedure_after, procedure_wants, reading_after, reading_wants, waking_after, waking_wants}
use Rattle.port_manager.specs.Patients.{Patient, after_on, wants_on}
use Rattle.port_manager.proofs.LeftLaws.{halves_counted, left_at_stage, left_of_halves, left_of_look, left_of_power, left_of_tasks, left_of_waking, look_counted, region_wanted, task_wanted, tasks_counted}
use Rattle.port_manager.specs.Standing.{IsWatching}
use Rattle.port_manager.proofs.PageProgress.{InVain, left_of, patient_or_vain}
use Rattle.port_manager.proofs.PatientLaws.{asked_on, asked_within, kept_within}
use Rattle.port_manager.proofs.TurnCases.{later}
use Rattle.port_manager.proofs.TurnProgress.{left}
use Rattle.sim_module.specs.declared.module.SimModule.{SimModule}
use Rattle.sim_module.specs.Modules.{conduct}
use Rattle.sim_module.specs.Ticks.{ticked}
use Rattle.managed_module.specs.Managed.{HasHalves, IsCmisFamily, IsCmisJob, reads_state}
use Rattle.managed_module.proofs.Links.{IsOnA0, Link, link_after, no_other, not_refused}

abbrev reply_of : SimModule → Op → Reply
reply_of sim op = (passed_on conduct op sim).0

-- ---- operations on device A0

selecting_a0 : (op : Op) (missing : Option ℕ) → IsOnA0 op → IsOnA0 (selecting_first BankAndPage op missing)
selecting_a0 op None on = on
selecting_a0 op (Some page) on = tt

wanted_by_a0 : (awaited : Bool) (op : Op) (missing : Option ℕ) → IsOnA0 op → IsOnA0 (if awaited then read_selection BankAndPage else selecting_first BankAndPage op missing)
wanted_by_a0 true op missing on = tt
wanted_by_a0 false op missing on = selecting_a0 op missing on

wanted_a0 : (addressing : PageAddressing) (selected : KnownPage) (needed : Option ℕ) (inner op : Op) → addressing ≡ BankAndPage → op ≡ wanted addressing selected needed inner → IsOnA0 inner → IsOnA0 op
wanted_a0 addressing selected needed inner op way is on =
    subst IsOnA0 (sym (is ∙ ap (λ (by : PageAddressing). wanted by selected needed inner) way)) (wanted_by_a0 (is_awaited selected) inner (missing_page selected needed) on)

-- ---- readings of CMIS

paging_in : (family : Option Family) → IsCmisFamily family → regions.addressing_in family ≡ BankAndPage
paging_in None cmis = refl
paging_in (Some Cmis) cmis = refl
paging_in (Some _) cmis = absurd cmis

addressed_by : (unread : Bool) (image : Memory) → regions.addressing_of image ≡ BankAndPage → chosen (if unread then None else Some (regions.addressing_of image)) ≡ BankAndPage
addressed_by true image way = refl
addressed_by false image way = way

abbrev IsRegionOnA0 : Region → Type 0
IsRegionOnA0 (Lower A0) = Unit {0}
IsRegionOnA0 (Lower A2) = ⊥
IsRegionOnA0 FirstPage = Unit {0}
IsRegionOnA0 (Page page) = Unit {0}

on_a0 : (request : Request) (family : Option Family) (memory : Memory) → IsCmisFamily family → AllByRecursion IsRegionOnA0 (regions.regions_in request family memory)
on_a0 request None memory cmis = (tt, tt)
on_a0 request (Some Cmis) memory cmis =
    let flat = regions.is_flat memory in
    (tt, all_requested IsRegionOnA0 request (regions.halves_for request Cmis flat) (by (regions.is_for_banks request && not flat) flat)) where
      by : (banks flat : Bool) → AllByRecursion IsRegionOnA0 (regions_of_halves (if banks then regions.halves_of_banks else regions.halves_of Cmis flat))
      by true flat = (tt, (tt, (tt, tt)))
      by false true = (tt, tt)
      by false false = (tt, (tt, (tt, (tt, tt))))
on_a0 request (Some _) memory cmis = absurd cmis

all_at : (P : Region → Type 0) (list : List Region) (i : ℕ) (region : Region) → AllByRecursion P list → slice_get list i ≡ Some region → P region
all_at P [] i region all e = absurd cc
all_at P (first ∷ rest) zero region all e = let same : first ≡ region = cc in subst P same all.0
all_at P (first ∷ rest) (suc i) region all e = all_at P rest i region all.1 e

region_a0 : (region : Region) → IsRegionOnA0 region → IsOnA0 (regions.operation region)
region_a0 (Lower A0) on = tt
region_a0 (Lower A2) on = absurd on
region_a0 FirstPage on = tt
region_a0 (Page page) on = tt

more_settled : (n : ℕ) → n + 1 ≡ n → ⊥
more_settled n e = absurd (omega (arith, e))

-- a half that was read or left out is in hand no more
fetch_settles : (halves : Halves) (region : Region) (reply : Reply) → Answers (regions.operation region) reply → (reply ≡ Refused → ⊥) → reader.after_fetch (Some region) halves reply ≡ halves → ⊥
fetch_settles halves region (Bytes bytes) answers answered same = more_settled halves.settled (ap (λ (h : Halves). h.settled) same)
fetch_settles halves (Lower dev) Done answers answered same = answers
fetch_settles halves FirstPage Done answers answered same = answers
fetch_settles halves (Page page) Done answers answered same = answers
fetch_settles halves region Refused answers answered same = answered refl

module _ (sim : SimModule) (has : HasHalves sim) (job : Patient (OnPage Halves)) (op : Op) (reply : Reply) (asks : op_of (reading_wants job) ≡ Some op) (answers : Answers op reply) (gives : reply ≡ reply_of sim op)
    (cmis : IsCmisFamily (managed_by (regions.identifier job.conversation.conversation.conversation.image))) (link : Link paged_halves job.conversation.conversation sim) where
  abbrev on : OnPage Halves
  on = job.conversation.conversation

  abbrev halves : Halves
  halves = on.conversation

  abbrev a : Asks (chosen (reader.addressing halves)) on.selection (reader.page_by (reader.in_hand halves)) (reader.wants halves) op
  a = asked_on paged_halves job op asks

  abbrev region : (region : Region) × (reader.in_hand halves ≡ Some region) × (regions.operation region ≡ a.inner)
  region = region_wanted (reader.in_hand halves) a.inner a.wants

  pub way : chosen (reader.addressing halves) ≡ BankAndPage
  way = addressed_by _ halves.image (paging_in (managed_by (regions.identifier halves.image)) cmis)

  inner_a0 : IsOnA0 a.inner
  inner_a0 = subst IsOnA0 region.2 (region_a0 region.0 (all_at IsRegionOnA0 (regions.regions_of halves.request halves.image) halves.settled region.0 (on_a0 halves.request (managed_by (regions.identifier halves.image)) halves.image cmis) region.1))

  pub answered : reply ≡ Refused → ⊥
  answered is = not_refused sim op has (wanted_a0 (chosen (reader.addressing halves)) on.selection (reader.page_by (reader.in_hand halves)) a.inner op way a.is inner_a0) (sym gives ∙ is)

  lacks_more : (number : ℕ) → reader.after_lack halves ≡ halves → ⊥
  lacks_more number same = more_settled halves.settled (ap (λ (found : Option Region). (reader.leaving_out found halves).settled) (sym region.1) ∙ ap (λ (h : Halves). h.settled) same)

  own_settles : op ≡ a.inner → reader.after_reply halves reply ≡ halves → ⊥
  own_settles same stays =
      fetch_settles halves region.0 reply (subst (λ (o : Op). Answers o reply) (same ∙ sym region.2) answers) answered
      (ap (λ (found : Option Region). reader.after_fetch found halves reply) (sym region.1) ∙ stays)

  no_vain : InVain paged_halves left_of_halves halves_counted on a.inner op a.wants a.is reply → ⊥
  no_vain (inl refused) = answered refused
  no_vain (inr (inl other)) =
      no_other paged_halves on a.inner op sim has way a.is left_of_halves halves_counted a.wants reply gives link (λ page needs. inr (refl, lacks_more)) other
  no_vain (inr (inr (same, stays))) = own_settles same stays

  pub reading_nearer : left (jobs.Reading (reading_after job reply) true) + 1 ≤ left (jobs.Reading job true)
  reading_nearer = by (patient_or_vain paged_halves left_of_halves halves_counted job op reply asks answers) where
    by : (left_of paged_halves left_of_halves halves_counted (reading_after job reply) + 1 ≤ left_of paged_halves left_of_halves halves_counted job) ⊎ InVain paged_halves left_of_halves halves_counted on a.inner op a.wants a.is reply → left (jobs.Reading (reading_after job reply) true) + 1 ≤ left (jobs.Reading job true)
    by (inl nearer) = omega (arith, nearer)
    by (inr vain) = absurd (no_vain vain)

  pub reading_linked : Link paged_halves (reading_after job reply).conversation.conversation (ticked (passed_on conduct op sim).1)
  reading_linked =
      kept_within (λ (on : OnPage Halves). Link paged_halves on (ticked (passed_on conduct op sim).1)) (wants_on paged_halves) (after_on paged_halves) job reply
      (link_after paged_halves on a.inner op sim has way a.is reply gives answered)

-- ---- tasks

task_a0 : (task : Task) → IsOnA0 (operation task)
task_a0 tasks.FindReady = tt
task_a0 (tasks.Deinitialize bits) = tt
task_a0 (tasks.AwaitDeactivated lanes) = tt
task_a0 (tasks.Stage control) = tt
task_a0 (tasks.CheckStaged control) = tt
task_a0 (tasks.Apply bits) = tt
task_a0 (tasks.AwaitApplied lanes) = tt
task_a0 (tasks.CheckActive control) = tt
task_a0 (tasks.AwaitActivated lanes) = tt

task_page : (task : Task) (page : ℕ) → page_of task ≡ Some page → (page ≡ 0x10) ⊎ (page ≡ 0x11)
task_page tasks.FindReady page e = absurd cc
task_page (tasks.Deinitialize bits) page e = inl (let same : Some 0x10 ≡ Some page = e in cc)
task_page (tasks.AwaitDeactivated lanes) page e = inr (let same : Some 0x11 ≡ Some page = e in cc)
task_page (tasks.Stage control) page e = inl (let same : Some 0x10 ≡ Some page = e in cc)
task_page (tasks.CheckStaged control) page e = inl (let same : Some 0x10 ≡ Some page = e in cc)
task_page (tasks.Apply bits) page e = inl (let same : Some 0x10 ≡ Some page = e in cc)
task_page (tasks.AwaitApplied lanes) page e = inr (let same : Some 0x11 ≡ Some page = e in cc)
task_page (tasks.CheckActive control) page e = inr (let same : Some 0x11 ≡ Some page = e in cc)
task_page (tasks.AwaitActivated lanes) page e = inr (let same : Some 0x11 ≡ Some page = e in cc)

there : (sim : SimModule) (page : ℕ) → HasHalves sim → (page ≡ 0x10) ⊎ (page ≡ 0x11) → finmap.contains_key sim.image (page_key page) ≡ true
there sim page has (inl e) = ap (λ (page : ℕ). finmap.contains_key sim.image (page_key page)) e ∙ has.control
there sim page has (inr e) = ap (λ (page : ℕ). finmap.contains_key sim.image (page_key page)) e ∙ has.status

-- a judgement changes where the list stands, unless it is open
judged_moves : (work : Work) (met : ℕ) (judged : ReplyJudgement) → list_at work (judged_at (met, None) judged) ≡ list_at work (met, None) → judged ≡ NotYet
judged_moves work met Met same = absurd (more_settled met (ap (λ (list : TaskList). list.met) same))
judged_moves work met NotYet same = refl
judged_moves work met (Fails fault) same = absurd (let none : Some fault ≡ None = ap (λ (list : TaskList). list.fault) same in cc)

differs_settles : (fault : ℕ → ProvisionFault) (found : Option ℕ) → met_unless fault found ≡ NotYet → ⊥
differs_settles fault None e = cc
differs_settles fault (Some lane) e = cc

-- what is open is a state that is read
open_reads : (task : Task) (reply : Reply) → Answers (operation task) reply → (reply ≡ Refused → ⊥) → judgement task reply ≡ NotYet → reads_state (operation task) ≡ true
unfolding judged
open_reads tasks.FindReady reply answers answered e = refl
open_reads (tasks.Deinitialize bits) (Bytes bytes) answers answered e = absurd answers
open_reads (tasks.Deinitialize bits) Done answers answered e = absurd cc
open_reads (tasks.Deinitialize bits) Refused answers answered e = absurd (answered refl)
open_reads (tasks.AwaitDeactivated lanes) reply answers answered e = refl
open_reads (tasks.Stage control) (Bytes bytes) answers answered e = absurd answers
open_reads (tasks.Stage control) Done answers answered e = absurd cc
open_reads (tasks.Stage control) Refused answers answered e = absurd (answered refl)
open_reads (tasks.CheckStaged control) (Bytes bytes) answers answered e = absurd (differs_settles StagedDiffers (differing_lane bytes.items control) e)
open_reads (tasks.CheckStaged control) Done answers answered e = absurd answers
open_reads (tasks.CheckStaged control) Refused answers answered e = absurd (answered refl)
open_reads (tasks.Apply bits) (Bytes bytes) answers answered e = absurd answers
open_reads (tasks.Apply bits) Done answers answered e = absurd cc
open_reads (tasks.Apply bits) Refused answers answered e = absurd (answered refl)
open_reads (tasks.AwaitApplied lanes) reply answers answered e = refl
open_reads (tasks.CheckActive control) (Bytes bytes) answers answered e = absurd (differs_settles ActiveDiffers (differing_lane bytes.items control) e)
open_reads (tasks.CheckActive control) Done answers answered e = absurd answers
open_reads (tasks.CheckActive control) Refused answers answered e = absurd (answered refl)
open_reads (tasks.AwaitActivated lanes) reply answers answered e = refl

task_told : (work : Work) (met : ℕ) (fault : Option ProvisionFault) (task : Task) (inner : Op) (reply : Reply) → fault ≡ None → slice_get (tasks_of work) met ≡ Some task → operation task ≡ inner → Answers inner reply → (reply ≡ Refused → ⊥)
    → list_at work (told_at (task_at (tasks_of work) met fault) (met, fault) reply) ≡ list_at work (met, fault) → reads_state inner ≡ true
task_told work met fault task inner reply none hand is answers answered same =
    let same_list : list_at work (judged_at (met, None) (judgement task reply)) ≡ list_at work (met, None) =
    ap (λ (found : Option Task). list_at work (told_at found (met, None) reply)) (sym hand)
    ∙ subst (λ (fault : Option ProvisionFault). list_at work (told_at (task_at (tasks_of work) met fault) (met, fault) reply) ≡ list_at work (met, fault)) none same in
    subst (λ (op : Op). reads_state op ≡ true) is
    (open_reads task reply (subst (λ (op : Op). Answers op reply) (sym is) answers) answered (judged_moves work met (judgement task reply) same_list))

module _ (sim : SimModule) (has : HasHalves sim) (job : PatientProcedure) (op : Op) (reply : Reply) (asks : op_of (procedure_wants job) ≡ Some op) (answers : Answers op reply) (gives : reply ≡ reply_of sim op)
    (link : Link paged_tasks job.conversation.conversation sim) where
  abbrev tasks_on : OnPage TaskList
  tasks_on = job.conversation.conversation

  abbrev list : TaskList
  list = tasks_on.conversation

  abbrev t : Asks BankAndPage tasks_on.selection (progress.page_by (hand list)) (progress.wants list) op
  t = asked_on paged_tasks job op asks

  abbrev found : (list.fault ≡ None) × ((task : Task) × (slice_get (tasks_of list.work) list.met ≡ Some task) × (operation task ≡ t.inner))
  found = task_wanted list.work list.met list.fault (hand list) t.inner refl t.wants

  abbrev task : Task
  task = found.1.0

  hand_is : hand list ≡ Some task
  hand_is = ap (λ (fault : Option ProvisionFault). task_at (tasks_of list.work) list.met fault) found.0 ∙ found.1.1

  pub task_answered : reply ≡ Refused → ⊥
  task_answered is = not_refused sim op has (wanted_a0 BankAndPage tasks_on.selection (progress.page_by (hand list)) t.inner op refl t.is (subst IsOnA0 found.1.2 (task_a0 task))) (sym gives ∙ is)

  page_there : (page : ℕ) → progress.page_by (hand list) ≡ Some page → finmap.contains_key sim.image (page_key page) ≡ true
  page_there page needs = there sim page has (task_page task page (ap (λ (found : Option Task). progress.page_by found) (sym hand_is) ∙ needs))

  vain_reads : InVain paged_tasks left_of_tasks tasks_counted tasks_on t.inner op t.wants t.is reply → reads_state op ≡ true
  vain_reads (inl refused) = absurd (task_answered refused)
  vain_reads (inr (inl other)) =
      absurd (no_other paged_tasks tasks_on t.inner op sim has refl t.is left_of_tasks tasks_counted t.wants reply gives link (λ page needs. inl (page_there page needs)) other)
  vain_reads (inr (inr (same, stays))) =
      subst (λ (op : Op). reads_state op ≡ true) (sym same)
      (task_told list.work list.met list.fault task t.inner reply found.0 found.1.1 found.1.2 (subst (λ (op : Op). Answers op reply) same answers) task_answered stays)

  -- its own operation brought nothing
  vain_own : InVain paged_tasks left_of_tasks tasks_counted tasks_on t.inner op t.wants t.is reply → (progress.wants list ≡ Do op) × (after_reply list reply ≡ list)
  vain_own (inl refused) = absurd (task_answered refused)
  vain_own (inr (inl other)) =
      absurd (no_other paged_tasks tasks_on t.inner op sim has refl t.is left_of_tasks tasks_counted t.wants reply gives link (λ page needs. inl (page_there page needs)) other)
  vain_own (inr (inr (same, stays))) = (t.wants ∙ ap (λ (op : Op). Do op) (sym same), stays)

  pub procedure_idles : (left_of paged_tasks left_of_tasks tasks_counted (procedure_after job reply) + 1 ≤ left_of paged_tasks left_of_tasks tasks_counted job) ⊎ ((progress.wants list ≡ Do op) × (after_reply list reply ≡ list))
  procedure_idles = by (patient_or_vain paged_tasks left_of_tasks tasks_counted job op reply asks answers) where
    by : (left_of paged_tasks left_of_tasks tasks_counted (procedure_after job reply) + 1 ≤ left_of paged_tasks left_of_tasks tasks_counted job) ⊎ InVain paged_tasks left_of_tasks tasks_counted tasks_on t.inner op t.wants t.is reply
        → (left_of paged_tasks left_of_tasks tasks_counted (procedure_after job reply) + 1 ≤ left_of paged_tasks left_of_tasks tasks_counted job) ⊎ ((progress.wants list ≡ Do op) × (after_reply list reply ≡ list))
    by (inl nearer) = inl nearer
    by (inr vain) = inr (vain_own vain)

  pub procedure_waits : (n : ℕ) → (left_of paged_tasks left_of_tasks tasks_counted (procedure_after job reply) + n + 1 ≤ left_of paged_tasks left_of_tasks tasks_counted job + n) ⊎ (reads_state op ≡ true)
  procedure_waits n = by (patient_or_vain paged_tasks left_of_tasks tasks_counted job op reply asks answers) where
    by : (left_of paged_tasks left_of_tasks tasks_counted (procedure_after job reply) + 1 ≤ left_of paged_tasks left_of_tasks tasks_counted job) ⊎ InVain paged_tasks left_of_tasks tasks_counted tasks_on t.inner op t.wants t.is reply
        → (left_of paged_tasks left_of_tasks tasks_counted (procedure_after job reply) + n + 1 ≤ left_of paged_tasks left_of_tasks tasks_counted job + n) ⊎ (reads_state op ≡ true)
    by (inl nearer) = inl (omega (arith, nearer))
    by (inr vain) = inr (vain_reads vain)

  pub procedure_linked : Link paged_tasks (procedure_after job reply).conversation.conversation (ticked (passed_on conduct op sim).1)
  procedure_linked =
      kept_within (λ (on : OnPage TaskList). Link paged_tasks on (ticked (passed_on conduct op sim).1)) (wants_on paged_tasks) (after_on paged_tasks) job reply
      (link_after paged_tasks tasks_on t.inner op sim has refl t.is reply gives task_answered)

-- ---- looks

look_a0 : (at : LookStage) (op : Op) → looks.wants_at at ≡ Do op → IsOnA0 op
look_a0 looking.Lower op e = let same : looks.fetch_half 0 ≡ op = cc in subst IsOnA0 same tt
look_a0 looking.Lanes op e = let same : looks.fetch_half 128 ≡ op = cc in subst IsOnA0 same tt
look_a0 (looking.Seen wanted) op e = absurd cc

look_page : (at : LookStage) (page : ℕ) → looks.page_at at ≡ Some page → page ≡ 0x11
look_page looking.Lower page e = absurd cc
look_page looking.Lanes page e = sym (let same : 0x11 ≡ page = cc in same)
look_page (looking.Seen wanted) page e = absurd cc

below_moves : (ready : Bool) → (if ready then looking.Lanes else looking.Seen false) ≡ looking.Lower → ⊥
below_moves true e = absurd cc
below_moves false e = absurd cc

-- a half that was read is in hand no more
look_moves : (goal : Goal) (at : LookStage) (op : Op) (reply : Reply) → looks.wants_at at ≡ Do op → Answers op reply → (reply ≡ Refused → ⊥) → looks.stage_after goal at reply ≡ at → ⊥
look_moves goal looking.Lower op (Bytes bytes) wants answers answered same = below_moves (number_in_byte (fields.Cmis cmis_fields.ModuleState) (slice_index bytes.items 3) == 3) same
look_moves goal looking.Lower op Done wants answers answered same = let is : op ≡ looks.fetch_half 0 = cc in subst (λ (o : Op). Answers o Done) is answers
look_moves goal looking.Lanes op (Bytes bytes) wants answers answered same = absurd cc
look_moves goal looking.Lanes op Done wants answers answered same = let is : op ≡ looks.fetch_half 128 = cc in subst (λ (o : Op). Answers o Done) is answers
look_moves goal (looking.Seen wanted) op reply wants answers answered same = absurd cc
look_moves goal at op Refused wants answers answered same = answered refl

module _ (sim : SimModule) (has : HasHalves sim) (job : Patient (OnPage Look)) (op : Op) (reply : Reply) (asks : op_of (look_wants job) ≡ Some op) (answers : Answers op reply) (gives : reply ≡ reply_of sim op)
    (link : Link paged_look job.conversation.conversation sim) where
  abbrev look_on : OnPage Look
  look_on = job.conversation.conversation

  abbrev look : Look
  look = look_on.conversation

  abbrev l : Asks BankAndPage look_on.selection (looks.needed look) (looks.wants look) op
  l = asked_on paged_look job op asks

  look_answered : reply ≡ Refused → ⊥
  look_answered is = not_refused sim op has (wanted_a0 BankAndPage look_on.selection (looks.needed look) l.inner op refl l.is (look_a0 look.stage l.inner l.wants)) (sym gives ∙ is)

  look_there : (page : ℕ) → looks.needed look ≡ Some page → finmap.contains_key sim.image (page_key page) ≡ true
  look_there page needs = there sim page has (inr (look_page look.stage page needs))

  look_not_vain : InVain paged_look left_of_look look_counted look_on l.inner op l.wants l.is reply → ⊥
  look_not_vain (inl refused) = look_answered refused
  look_not_vain (inr (inl other)) = no_other paged_look look_on l.inner op sim has refl l.is left_of_look look_counted l.wants reply gives link (λ page needs. inl (look_there page needs)) other
  look_not_vain (inr (inr (same, stays))) =
      look_moves look.goal look.stage l.inner reply l.wants (subst (λ (o : Op). Answers o reply) same answers) look_answered (ap (λ (look : Look). look.stage) stays)

  pub look_nearer : left (jobs.Confirming (look_after job reply)) + 1 ≤ left (jobs.Confirming job)
  look_nearer = by (patient_or_vain paged_look left_of_look look_counted job op reply asks answers) where
    by : (left_of paged_look left_of_look look_counted (look_after job reply) + 1 ≤ left_of paged_look left_of_look look_counted job) ⊎ InVain paged_look left_of_look look_counted look_on l.inner op l.wants l.is reply
        → left (jobs.Confirming (look_after job reply)) + 1 ≤ left (jobs.Confirming job)
    by (inl nearer) = omega (arith, nearer)
    by (inr vain) = absurd (look_not_vain vain)

  pub look_linked : Link paged_look (look_after job reply).conversation.conversation (ticked (passed_on conduct op sim).1)
  look_linked =
      kept_within (λ (on : OnPage Look). Link paged_look on (ticked (passed_on conduct op sim).1)) (wants_on paged_look) (after_on paged_look) job reply
      (link_after paged_look look_on l.inner op sim has refl l.is reply gives look_answered)

-- ---- waking up

power_reads : (power : Power) (at : PowerStage) (fault : Option ProvisionFault) (op : Op) (reply : Reply) → wants_by fault (operation_at power at) ≡ Do op → Answers op reply → (reply ≡ Refused → ⊥)
    → (left_of_power (moved_to (record { power = power; stage = at; fault = fault }) (stage_after power at reply)) + 1 ≤ left_at_stage at fault) ⊎ (reads_state op ≡ true)
power_reads power at (Some fault) op reply wants answers answered = absurd cc
power_reads power stage.Met None op reply wants answers answered = absurd cc
power_reads power stage.Unread None op (Bytes bytes) wants answers answered = inl (omega arith)
power_reads power stage.Unread None op Done wants answers answered = let same : op ≡ read_controls = cc in absurd (subst (λ (o : Op). Answers o Done) same answers)
power_reads power stage.Unread None op Refused wants answers answered = absurd (answered refl)
power_reads power (stage.Found byte) None op (Bytes bytes) wants answers answered = let same : op ≡ set_controls (wanted_controls power byte) = cc in absurd (subst (λ (o : Op). Answers o (Bytes bytes)) same answers)
power_reads power (stage.Found byte) None op Done wants answers answered = inl (omega arith)
power_reads power (stage.Found byte) None op Refused wants answers answered = absurd (answered refl)
power_reads power stage.Stored None op reply wants answers answered = let same : read_module_state ≡ op = cc in inr (subst (λ (o : Op). reads_state o ≡ true) same refl)

pub power_a0 : (power : Power) (at : PowerStage) (fault : Option ProvisionFault) (op : Op) → wants_by fault (operation_at power at) ≡ Do op → IsOnA0 op
power_a0 power at (Some fault) op wants = absurd cc
power_a0 power stage.Met None op wants = absurd cc
power_a0 power stage.Unread None op wants = let same : read_controls ≡ op = cc in subst IsOnA0 same tt
power_a0 power (stage.Found byte) None op wants = let same : set_controls (wanted_controls power byte) ≡ op = cc in subst IsOnA0 same tt
power_a0 power stage.Stored None op wants = let same : read_module_state ≡ op = cc in subst IsOnA0 same tt

pub waking_waits : (sim : SimModule) (job : PatientPower) (op : Op) (reply : Reply) → HasHalves sim → op_of (waking_wants job) ≡ Some op → Answers op reply → reply ≡ reply_of sim op
    → (left_of_waking (waking_after job reply) + 1 ≤ left_of_waking job) ⊎ (reads_state op ≡ true)
waking_waits sim job op reply has asks answers gives =
    let change = job.conversation.conversation in
    let wants = asked_within power_wants job op asks in
    let answered : reply ≡ Refused → ⊥ = λ is. not_refused sim op has (power_a0 change.power change.stage change.fault op wants) (sym gives ∙ is) in
    by (power_reads change.power change.stage change.fault op reply wants answers answered) where
      by : (left_of_power (change_after job.conversation.conversation reply) + 1 ≤ left_of_power job.conversation.conversation) ⊎ (reads_state op ≡ true) → (left_of_waking (waking_after job reply) + 1 ≤ left_of_waking job) ⊎ (reads_state op ≡ true)
      by (inl nearer) =
          let same : left_of_power (waking_after job reply).conversation.conversation ≡ left_of_power (change_after job.conversation.conversation reply) =
          kept_within (λ after. left_of_power after ≡ left_of_power (change_after job.conversation.conversation reply)) power_wants change_after job reply refl in
          inl (omega (arith, nearer, same))
      by (inr reads) = inr reads

-- ---- each job

abbrev pub LinkedJob : Job → SimModule → Type 0
LinkedJob (jobs.Reading job woken) sim = Link paged_halves job.conversation.conversation sim
LinkedJob (jobs.Waking job) sim = Unit {0}
LinkedJob (jobs.Sleeping job) sim = Unit {0}
LinkedJob (jobs.Provisioning job goal) sim = Link paged_tasks job.conversation.conversation sim
LinkedJob (jobs.Activating job goal) sim = Link paged_tasks job.conversation.conversation sim
LinkedJob (jobs.Confirming job) sim = Link paged_look job.conversation.conversation sim
LinkedJob (jobs.Watching job) sim = Unit {0}

some_more : (more before n : ℕ) (P : Type 0) → (more + 1 ≤ before) ⊎ P → (more + n + 1 ≤ before + n) ⊎ P
some_more more before n P (inl nearer) = inl (omega (arith, nearer))
some_more more before n P (inr p) = inr p

-- it comes nearer to its end, or reads a state
pub job_waits : (sim : SimModule) (job : Job) (op : Op) (reply : Reply) → HasHalves sim → IsCmisJob job → LinkedJob job sim → ¬ (IsWatching job) → asked job ≡ Some op → Answers op reply → reply ≡ reply_of sim op
    → (left (later job reply) + 1 ≤ left job) ⊎ (reads_state op ≡ true)
job_waits sim (jobs.Reading job true) op reply has cmis link stays asks answers gives = inl (reading_nearer sim has job op reply asks answers gives cmis link)
job_waits sim (jobs.Reading job false) op reply has cmis link stays asks answers gives = inl (omega (arith, reading_nearer sim has job op reply asks answers gives cmis link))
job_waits sim (jobs.Waking job) op reply has cmis link stays asks answers gives = some_more _ _ 49 (reads_state op ≡ true) (waking_waits sim job op reply has asks answers gives)
job_waits sim (jobs.Sleeping job) op reply has cmis link stays asks answers gives = waking_waits sim job op reply has asks answers gives
job_waits sim (jobs.Provisioning job goal) op reply has cmis link stays asks answers gives = procedure_waits sim has job op reply asks answers gives link 14
job_waits sim (jobs.Activating job goal) op reply has cmis link stays asks answers gives = procedure_waits sim has job op reply asks answers gives link 4
job_waits sim (jobs.Confirming job) op reply has cmis link stays asks answers gives = inl (look_nearer sim has job op reply asks answers gives link)
job_waits sim (jobs.Watching job) op reply has cmis link stays asks answers gives = absurd (stays tt)

pub job_linked : (sim : SimModule) (job : Job) (op : Op) (reply : Reply) → HasHalves sim → IsCmisJob job → LinkedJob job sim → asked job ≡ Some op → Answers op reply → reply ≡ reply_of sim op
    → LinkedJob (later job reply) (ticked (passed_on conduct op sim).1)
job_linked sim (jobs.Reading job woken) op reply has cmis link asks answers gives = reading_linked sim has job op reply asks answers gives cmis link
job_linked sim (jobs.Waking job) op reply has cmis link asks answers gives = tt
job_linked sim (jobs.Sleeping job) op reply has cmis link asks answers gives = tt
job_linked sim (jobs.Provisioning job goal) op reply has cmis link asks answers gives = procedure_linked sim has job op reply asks answers gives link
job_linked sim (jobs.Activating job goal) op reply has cmis link asks answers gives = procedure_linked sim has job op reply asks answers gives link
job_linked sim (jobs.Confirming job) op reply has cmis link asks answers gives = look_linked sim has job op reply asks answers gives link
job_linked sim (jobs.Watching job) op reply has cmis link asks answers gives = tt
