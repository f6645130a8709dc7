-- What is asked for rests on an image that was read whole.
use Rattle.std.proofs.Common.{◌≡◌, ℕ, zero, suc, Bool, true, false, List, [], ◌∷◌, Option, Some, None, if◌then◌else◌, inl, inr, sym, subst, refl, ◌∙◌}
use Rattle.std.specs.Prelude.{◌-◌, slice_get}
use Rattle.std.specs.List.{AllByRecursion}
use Rattle.bus_model.specs.declared.operation.Op.{Op}
use Rattle.conversations.specs.declared.next.Next.{Next}
use Rattle.conversations.specs.declared.next.Next.TheVariants.{Do}
use Rattle.conversations.specs.declared.on_page.OnPage.{OnPage}
use Rattle.conversations.specs.Selecting.{IsFetch}
use Rattle.conversations.specs.Wanted.{op_of}
use Rattle.conversations.proofs.OnPageLaws.{Asks, read_is_fetch}
use Rattle.paged_memory.specs.declared.page_addressing.KnownPage.{KnownPage}
use Rattle.paged_memory.specs.declared.page_addressing.PageAddressing.{PageAddressing}
use Rattle.paged_memory.specs.KnownPages.{is_awaited, missing_page, selecting_first, wanted}
use Rattle.paged_memory.specs.PageAddressing.{read_selection}
use Rattle.control_sets.specs.declared.fault.ProvisionFault.{ProvisionFault}
use Rattle.control_sets.specs.declared.procedures.power.Power.{Power}
use Rattle.control_sets.specs.declared.procedures.power.Power.TheVariants.{Awake, Asleep}
use Rattle.control_sets.specs.declared.procedures.power.PowerStage.{PowerStage}
use Rattle.control_sets.specs.declared.procedures.power.PowerStage.TheVariants as stage
use Rattle.control_sets.specs.declared.procedures.procedure.Work.{Work}
use Rattle.control_sets.specs.declared.procedures.task.Task.{Task}
use Rattle.control_sets.specs.OutcomeOperations.{read_module_state}
use Rattle.control_sets.specs.PowerControls.{read_controls, set_controls, wanted_controls}
use Rattle.control_sets.specs.PowerProgress.{PatientPower, operation_at, power_wants}
use Rattle.control_sets.specs.PowerProgress as changes
use Rattle.control_sets.specs.Progress.{PatientProcedure, hand, task_at, tasks_of}
use Rattle.control_sets.specs.Progress as tasks
use Rattle.control_sets.specs.RegisterOperations.{store_to}
use Rattle.control_sets.specs.Tasks.{operation}
use Rattle.field_tables.specs.LaneSets.{byte_of}
use Rattle.field_tables.specs.declared.field.Register.TheVariants as registers
use Rattle.module_reading.specs.declared.halves.Halves.{Halves}
use Rattle.module_reading.specs.declared.region.Region.{Region}
use Rattle.module_reading.specs.declared.region.Region.TheVariants.{Lower, FirstPage, Page}
use Rattle.module_reading.specs.ImageReading as reader
use Rattle.module_reading.specs.Regions as regions
use Rattle.port_manager.specs.declared.deciding.Goal.{Goal}
use Rattle.port_manager.specs.declared.job.Job.{Job}
use Rattle.port_manager.specs.declared.job.Job.TheVariants as jobs
use Rattle.port_manager.specs.declared.look.Look.{Look}
use Rattle.port_manager.specs.declared.look.LookStage.{LookStage}
use Rattle.port_manager.specs.declared.look.LookStage.TheVariants as looking
use Rattle.port_manager.specs.declared.port.Outstanding.{Outstanding}
use Rattle.port_manager.specs.declared.port.Port.{Port}
use Rattle.conversations.specs.declared.next.Next.TheVariants as nexts
use Rattle.port_manager.specs.declared.port.Stage.{Stage}
use Rattle.port_manager.specs.declared.port.Stage.TheVariants.{Absent, Left, Working}
use Rattle.port_manager.specs.Jobs.{activation_of, asked, paged_halves, paged_look, look_wants, procedure_wants, provisioning_of, reading_wants, paged_tasks, waking_wants}
use Rattle.port_manager.specs.Looks as looks
use Rattle.port_manager.specs.Patients.{Patient}
use Rattle.port_manager.specs.Ports.{IfWorking, asked_in, next_at}
use Rattle.port_manager.specs.Stores.{ChangesPowerIn, IsNamedStore, IsStoreOf, May, MayMakeIn, StoresNothing}
use Rattle.port_manager.specs.Stories.{Story, settled_in, vain_in}
use Rattle.port_manager.specs.Readings.{GivesActivation, GivesGoal, GivesProvisioning}
use Rattle.port_manager.specs.Standing.{IfTrue, IsAt, IsNamed, IsTame, IsWatching, UnlessStale}
use Rattle.port_manager.proofs.PatientLaws.{asked_on, asked_within}
use Rattle.port_manager.proofs.SinceLaws.{activation_goal, provisioning_goal, since_map}
use Rattle.port_manager.proofs.StoryLaws.{asks_in, asks_when}

-- ---- fetches and selections

module _ (W G : Op → Type 0) where
  wanted_may : (addressing : PageAddressing) (selected : KnownPage) (needed : Option ℕ) (op : Op) → May W G op → May W G (wanted addressing selected needed op)
  wanted_may addressing selected needed op may = by (is_awaited selected) (missing_page selected needed) where
    by : (awaited : Bool) (missing : Option ℕ) → May W G (if awaited then read_selection addressing else selecting_first addressing op missing)
    by true missing = inl (read_is_fetch addressing)
    by false None = may
    by false (Some page) = inr (inl (addressing, page, refl))

  asks_may : {E : Type 0} (addressing : PageAddressing) (selected : KnownPage) (needed : Option ℕ) (within : Next E) (op : Op) → Asks addressing selected needed within op → ((inner : Op) → within ≡ Do inner → May W G inner) → May W G op
  asks_may addressing selected needed within op a may = subst (λ (o : Op). May W G o) (sym a.is) (wanted_may addressing selected needed a.inner (may a.inner a.wants))

  region_fetches : (region : Region) → IsFetch (regions.operation region)
  region_fetches (Lower dev) = tt
  region_fetches FirstPage = tt
  region_fetches (Page page) = tt

  half_may : (found : Option Region) (op : Op) → reader.wants_by found ≡ Do op → May W G op
  half_may None op e = absurd cc
  half_may (Some region) op e = let same : regions.operation region ≡ op = cc in inl (subst IsFetch same (region_fetches region))

  pub reading_may : (job : Patient (OnPage Halves)) (op : Op) → op_of (reading_wants job) ≡ Some op → May W G op
  reading_may job op e =
      let on = job.conversation.conversation in
      asks_may _ on.selection (paged_halves.page on.conversation) (reader.wants on.conversation) op (asked_on paged_halves job op e) (λ inner is. half_may (reader.in_hand on.conversation) inner is)

  look_at : (stage : LookStage) (op : Op) → looks.wants_at stage ≡ Do op → May W G op
  look_at looking.Lower op e = let same : looks.fetch_half 0 ≡ op = cc in inl (subst IsFetch same tt)
  look_at looking.Lanes op e = let same : looks.fetch_half 128 ≡ op = cc in inl (subst IsFetch same tt)
  look_at (looking.Seen wanted) op e = absurd cc

  pub look_may : (job : Patient (OnPage Look)) (op : Op) → op_of (look_wants job) ≡ Some op → May W G op
  look_may job op e =
      let on = job.conversation.conversation in
      asks_may _ on.selection (looks.needed on.conversation) (looks.wants on.conversation) op (asked_on paged_look job op e) (λ inner is. look_at on.conversation.stage inner is)

  -- ---- changes of power

  stage_may : (power : Power) (fault : Option ProvisionFault) (at : PowerStage) (op : Op) → ((byte : ℕ) → W (set_controls (wanted_controls power byte))) → changes.wants_by fault (operation_at power at) ≡ Do op → May W G op
  stage_may power (Some fault) at op was e = absurd cc
  stage_may power None stage.Unread op was e = let same : read_controls ≡ op = cc in subst (λ (o : Op). May W G o) same (inl tt)
  stage_may power None (stage.Found byte) op was e = let same : set_controls (wanted_controls power byte) ≡ op = cc in subst (λ (o : Op). May W G o) same (inr (inr (inl (was byte))))
  stage_may power None stage.Stored op was e = let same : read_module_state ≡ op = cc in subst (λ (o : Op). May W G o) same (inl tt)
  stage_may power None stage.Met op was e = absurd cc

  pub power_may : (power : Power) (job : PatientPower) (op : Op) → job.conversation.conversation.power ≡ power → ((byte : ℕ) → W (set_controls (wanted_controls power byte))) → op_of (waking_wants job) ≡ Some op → May W G op
  power_may power job op is was e =
      let change = job.conversation.conversation in
      stage_may power change.fault change.stage op was
      (subst (λ (p : Power). changes.wants_by change.fault (operation_at p change.stage) ≡ Do op) is (asked_within power_wants job op e))

  -- ---- procedures

  each_at : (P : Task → Type 0) (tasks : List Task) (n : ℕ) (task : Task) → AllByRecursion P tasks → slice_get tasks n ≡ Some task → P task
  each_at P [] n task all e = absurd cc
  each_at P (first ∷ rest) zero task all e = let same : first ≡ task = cc in subst P same all.0
  each_at P (first ∷ rest) (suc n) task all e = each_at P rest n task all.1 e

  at_hand : (P : Task → Type 0) (tasks : List Task) (met : ℕ) (fault : Option ProvisionFault) (task : Task) → AllByRecursion P tasks → task_at tasks met fault ≡ Some task → P task
  at_hand P tasks met None task all e = each_at P tasks met task all e
  at_hand P tasks met (Some fault) task all e = absurd cc

  task_may : (fault : Option ProvisionFault) (found : Option Task) (op : Op) → ((task : Task) → found ≡ Some task → May W G (operation task)) → tasks.wants_by fault found ≡ Do op → May W G op
  task_may fault None op may e = absurd cc
  task_may fault (Some task) op may e = let same : operation task ≡ op = cc in subst (λ (o : Op). May W G o) same (may task refl)

  pub procedure_may : (work : Work) (job : PatientProcedure) (op : Op) → job.conversation.conversation.conversation.work ≡ work → AllByRecursion (λ task. May W G (operation task)) (tasks_of work) → op_of (procedure_wants job) ≡ Some op → May W G op
  procedure_may work job op is all e =
      let on = job.conversation.conversation in
      let list = on.conversation in
      let every = subst (λ (work : Work). AllByRecursion (λ task. May W G (operation task)) (tasks_of work)) (sym is) all in
      asks_may _ on.selection (tasks.page_by (hand list)) (tasks.wants list) op (asked_on paged_tasks job op e)
      (λ inner wants. task_may list.fault (hand list) inner (λ task found. at_hand (λ task. May W G (operation task)) (tasks_of list.work) list.met list.fault task every found) wants)

  goal_may : (goal : Goal) (op : Op) → ((op : Op) → IsStoreOf goal op → G op) → IsStoreOf goal op → May W G op
  goal_may goal op stores store = inr (inr (inr (stores op store)))

  pub provisioning_may : (goal : Goal) → ((op : Op) → IsStoreOf goal op → G op) → AllByRecursion (λ task. May W G (operation task)) (tasks_of (provisioning_of goal))
  provisioning_may goal stores =
      (inl tt, (goal_may goal _ stores (inl refl), (inl tt, (goal_may goal _ stores (inr (inl refl)), (inl tt, (goal_may goal _ stores (inr (inr (inl refl))), (inl tt, (inl tt, tt))))))))

  pub activation_may : (goal : Goal) → G (store_to registers.DPDeinit ((255 - byte_of goal.lanes) ∷ [])) → AllByRecursion (λ task. May W G (operation task)) (tasks_of (activation_of goal))
  activation_may goal release = (inl tt, (inl tt, (inr (inr (inr release)), (inl tt, tt))))

-- ---- after a story

pub not_vain : (vain : Bool) → IfTrue vain ⊥ → vain ≡ false
not_vain true no_vain = absurd no_vain
not_vain false no_vain = refl

job_may : (story : Story) (op : Op) (job : Job) (vain : Bool) → vain ≡ vain_in story → IfTrue vain (IsTame job) → IsNamed story job → asked job ≡ Some op → MayMakeIn story op
job_may story op (jobs.Reading job woken) vain e tame named asks = reading_may (ChangesPowerIn story) (IsNamedStore story) job op asks
job_may story op (jobs.Waking job) vain e tame named asks =
    power_may (ChangesPowerIn story) (IsNamedStore story) Awake job op named.0 (λ byte. inl (sym e ∙ not_vain vain tame, named.1, (byte, refl))) asks
job_may story op (jobs.Sleeping job) vain e tame named asks =
    power_may (ChangesPowerIn story) (IsNamedStore story) Asleep job op named.0 (λ byte. inr (named.1, (byte, refl))) asks
job_may story op (jobs.Provisioning job goal) vain e tame named asks =
    procedure_may (ChangesPowerIn story) (IsNamedStore story) (provisioning_of goal) job op named.0 (provisioning_may (ChangesPowerIn story) (IsNamedStore story) goal (λ op store. (goal, since_map (GivesProvisioning goal) (GivesGoal goal) (provisioning_goal goal) story named.1, store))) asks
job_may story op (jobs.Activating job goal) vain e tame named asks =
    procedure_may (ChangesPowerIn story) (IsNamedStore story) (activation_of goal) job op named.0 (activation_may (ChangesPowerIn story) (IsNamedStore story) goal (goal, since_map (GivesActivation goal) (GivesGoal goal) (activation_goal goal) story named.1, inr (inr (inr refl)))) asks
job_may story op (jobs.Confirming job) vain e tame named asks = look_may (ChangesPowerIn story) (IsNamedStore story) job op asks
job_may story op (jobs.Watching job) vain e tame named asks = look_may (ChangesPowerIn story) (IsNamedStore story) job op asks

tame_in : (vain : Bool) (job : Job) → IfTrue vain (IfWorking (Working job) IsTame) → IfTrue vain (IsTame job)
tame_in vain job tame = tame

story_may : (story : Story) (op : Op) (at : Stage) (vain : Bool) → vain ≡ vain_in story → IfTrue vain (IfWorking at IsTame) → IfWorking at (IsNamed story) → asked_in at ≡ Some op → MayMakeIn story op
story_may story op Absent vain e tame named asks = absurd (let same = asks in cc)
story_may story op (Left reason) vain e tame named asks = absurd (let same = asks in cc)
story_may story op (Working job) vain e tame named asks = job_may story op job vain e (tame_in vain job tame) named asks

pub at_may : (story : Story) (port : Port) (op : Op) (now : ℕ) → IsAt story port → next_at port now ≡ nexts.Do op → MayMakeIn story op
at_may story port op now at is =
    let (nothing, does) = asks_when port.outstanding port now op is in
    story_may story op port.stage port.vain at.vain at.tame (subst (λ (o : Outstanding). UnlessStale o (IfWorking port.stage (IsNamed story))) nothing at.named) (asks_in port.stage port now op does)

-- ---- a module that is as it is wanted

pub nothing_else : (op : Op) → May (λ op. ⊥) (λ op. ⊥) op → StoresNothing op
nothing_else op (inl fetches) = inl fetches
nothing_else op (inr (inl selects)) = inr selects
nothing_else op (inr (inr (inl never))) = absurd never
nothing_else op (inr (inr (inr never))) = absurd never

watching_only : (job : Job) (op : Op) → IsWatching job → asked job ≡ Some op → StoresNothing op
watching_only (jobs.Reading job woken) op watches asks = absurd watches
watching_only (jobs.Waking job) op watches asks = absurd watches
watching_only (jobs.Sleeping job) op watches asks = absurd watches
watching_only (jobs.Provisioning job goal) op watches asks = absurd watches
watching_only (jobs.Activating job goal) op watches asks = absurd watches
watching_only (jobs.Confirming job) op watches asks = absurd watches
watching_only (jobs.Watching job) op watches asks = nothing_else op (look_may (λ op. ⊥) (λ op. ⊥) job op asks)

pub stage_only : (stage : Stage) (op : Op) → IfWorking stage IsWatching → asked_in stage ≡ Some op → StoresNothing op
stage_only Absent op watches asks = absurd (let same = asks in cc)
stage_only (Left reason) op watches asks = absurd (let same = asks in cc)
stage_only (Working job) op watches asks = watching_only job op watches asks

pub settled_only : (story : Story) (port : Port) (op : Op) (now : ℕ) → IsAt story port → settled_in story ≡ true → next_at port now ≡ nexts.Do op → StoresNothing op
settled_only story port op now at settled is =
    let (nothing, does) = asks_when port.outstanding port now op is in
    stage_only port.stage op (subst (λ (settled : Bool). IfTrue settled (IfWorking port.stage IsWatching)) settled at.settled) (asks_in port.stage port now op does)
