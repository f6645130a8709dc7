-- One operation of a port at a simulated module that suits what is wanted.
use Rattle.port_manager.specs.declared.port.Outcome.TheVariants as outcomes
use Rattle.port_manager.specs.declared.turn.Note.{Note}
use Rattle.port_manager.specs.declared.turn.Note.TheVariants as notes
use Rattle.port_manager.specs.Ports.{IfWorking, IsTurnedIn, answered, asked_in, noting, outcome_of, turned}
use Rattle.managed_module.proofs.OwnJobs.{turn_own}
use Rattle.managed_module.proofs.OwnTurns.{IsBegun, OwnJob, OwnTurn, own_paused}
use Rattle.std.proofs.Common.{◌≡◌, ◌⊎◌, inl, inr, ℕ, ◌||◌, Bool, true, false, Option, Some, refl, sym, ap, subst, ◌∙◌}
use Rattle.std.specs.FinSet as set
use Rattle.std.specs.FinSet.{contains-empty, contains-union, nat_cmp-IsAntisymmetric, same_set}
use Rattle.std.specs.Cmp.{nat_cmp_total}
use Rattle.std.specs.Ordering.{nat_cmp}
use Rattle.bus_model.specs.declared.operation.Op.{Op}
use Rattle.bus_model.specs.declared.operation.Reply.{Reply}
use Rattle.bus_model.specs.Operations.{Answers}
use Rattle.bus_model.specs.ScriptedBus.{ticked_times}
use Rattle.field_tables.specs.LaneSets.{Lanes}
use Rattle.port_manager.specs.declared.deciding.Wanted.{Wanted}
use Rattle.port_manager.specs.declared.job.Job.{Job}
use Rattle.port_manager.specs.declared.job.Job.TheVariants as jobs
use Rattle.port_manager.specs.declared.port.Outcome.{Outcome}
use Rattle.port_manager.specs.declared.port.Outstanding.{Outstanding}
use Rattle.port_manager.specs.declared.port.Outstanding.TheVariants as outstanding
use Rattle.port_manager.specs.declared.port.Port.{Port}
use Rattle.port_manager.specs.declared.port.Stage.{Stage}
use Rattle.port_manager.specs.declared.port.Stage.TheVariants as stages
use Rattle.port_manager.specs.declared.request.Request.{Request}
use Rattle.port_manager.specs.declared.request.Request.TheVariants.{Wake}
use Rattle.port_manager.specs.Jobs.{asked}
use Rattle.port_manager.specs.Progress.{IsGoing, IsUpStage}
use Rattle.port_manager.specs.Requests.{granted}
use Rattle.port_manager.specs.Turns.{Turn}
use Rattle.port_manager.specs.Turns as turns
use Rattle.sim_module.specs.declared.module.SimModule.{SimModule}
use Rattle.sim_module.specs.Modules.{conduct}
use Rattle.managed_module.specs.Managed.{HasHalves, IsCmisStage}
use Rattle.managed_module.specs.ComingUp.{IsUpResult}
use Rattle.managed_module.specs.Succeeds.{AreWhole, IsAwaited, NoProcedureFails, Suits}
use Rattle.managed_module.specs.SuitedModules.{IsProvisionable}
use Rattle.managed_module.proofs.BoundLaw.{StageAt, same_request}
use Rattle.managed_module.proofs.JobSteps.{JobAt}
use Rattle.managed_module.proofs.OwnAdverts.{IsPaged}
use Rattle.managed_module.proofs.OwnHalves.{is_cmis}
use Rattle.managed_module.proofs.OwnTasks.{module_after, reply_of}
use Rattle.port_manager.proofs.TurnCases.{IsAnyTurn}

-- ---- nothing is asked for

union_empty : (lanes : Lanes) → set.union lanes set.empty ≡ lanes
union_empty lanes =
    same_set nat_cmp_total nat_cmp-IsAntisymmetric (set.union lanes set.empty) lanes (λ lane.
    contains-union nat_cmp_total lanes set.empty lane ∙ ap (λ (b : Bool). set.contains lanes lane || b) (contains-empty nat_cmp lane) ∙ or_false (set.contains lanes lane)) where
      or_false : (b : Bool) → (b || false) ≡ b
      or_false true = refl
      or_false false = refl

granted_same : (wanted : Wanted) → granted Wake wanted ≡ wanted
granted_same wanted =
    let down = union_empty wanted.down in
    let asleep = or_false wanted.asleep in
    λ i. record wanted { asleep = asleep i; down = down i } where
      or_false : (b : Bool) → (b || false) ≡ b
      or_false true = refl
      or_false false = refl

-- ---- a stage

abbrev pub OwnStage : ℕ → SimModule → Stage → SimModule → Type 0
OwnStage most first stages.Absent sim = ⊥
OwnStage most first (stages.Left reason) sim = ⊥
OwnStage most first (stages.Working job) sim = OwnJob most first job sim

-- nothing that is outstanding is stale
abbrev pub IsFresh : Outstanding → Type 0
IsFresh outstanding.Nothing = Unit {0}
IsFresh outstanding.Awaited = Unit {0}
IsFresh outstanding.Stale = ⊥
IsFresh outstanding.Forsaken = Unit {0}

pub cmis_stage : (most : ℕ) (first : SimModule) (stage : Stage) (sim : SimModule) → IsPaged sim.image → OwnStage most first stage sim → IsCmisStage stage
cmis_stage most first stages.Absent sim paged own = tt
cmis_stage most first (stages.Left reason) sim paged own = tt
cmis_stage most first (stages.Working (jobs.Reading job woken)) sim paged own = is_cmis sim.image job.conversation.conversation.conversation paged own.0.own
cmis_stage most first (stages.Working (jobs.Waking job)) sim paged own = tt
cmis_stage most first (stages.Working (jobs.Sleeping job)) sim paged own = tt
cmis_stage most first (stages.Working (jobs.Provisioning job goal)) sim paged own = tt
cmis_stage most first (stages.Working (jobs.Activating job goal)) sim paged own = tt
cmis_stage most first (stages.Working (jobs.Confirming job)) sim paged own = tt
cmis_stage most first (stages.Working (jobs.Watching job)) sim paged own = tt

pub stage_paused : (most : ℕ) (first : SimModule) (stage : Stage) (count : ℕ) (sim : SimModule) → OwnStage most first stage sim → OwnStage most first stage (ticked_times conduct count sim)
stage_paused most first stages.Absent count sim own = own
stage_paused most first (stages.Left reason) count sim own = own
stage_paused most first (stages.Working job) count sim own = own_paused most first job count sim own

-- ---- one operation

-- neither provisioning nor activation fails, or the module is provisionable
abbrev pub IsSpared : ℕ → SimModule → Outcome → Type 0
IsSpared most first result = NoProcedureFails result ⊎ IsProvisionable most first

pub record IsStep (most : ℕ) (wanted : Wanted) (first : SimModule) (result : Outcome) (port : Port) (sim : SimModule) : Type 0 where
  pub begun : result ≡ outcomes.Went notes.Identified → IfWorking port.stage (IsBegun most wanted first sim)
  pub goes : IsGoing result
  pub own : OwnStage most first port.stage sim
  pub request : port.request ≡ Wake
  pub fresh : IsFresh port.outstanding

abbrev is_went : Outcome → Bool
is_went outcomes.Dropped = false
is_went (outcomes.Went note) = true
is_went (outcomes.Paused moment) = false
is_went (outcomes.Failed fault moment) = false
is_went (outcomes.Left reason) = false

not_went : (result : Outcome) → is_went result ≡ false → result ≡ outcomes.Went notes.Identified → ⊥
not_went result off e = let wrong : false ≡ true = sym off ∙ ap is_went e in cc

same_note : (note other : Note) → outcomes.Went note ≡ outcomes.Went other → note ≡ other
same_note note other e = cc

-- the module has come up, or it goes on
abbrev pub IsUpOrStep : ℕ → Wanted → SimModule → Outcome → Port → SimModule → Type 0
IsUpOrStep most wanted first result port sim = IsUpResult result ⊎ IsStep most wanted first result port sim

turned_step : (most : ℕ) (wanted : Wanted) (first : SimModule) (port : Port) (turn : Turn) (now : ℕ) (after : SimModule) → port.request ≡ Wake → IsFresh port.outstanding → OwnTurn most wanted first after turn → IsSpared most first (outcome_of port turn now)
    → IsUpOrStep most wanted first (outcome_of port turn now) (turned port turn now) after
turned_step most wanted first port (turns.On job note) now after wake fresh (inl up) early = inl up
turned_step most wanted first port (turns.On job note) now after wake fresh (inr own) early =
    inr (record { begun = λ e. own.1 (same_note note notes.Identified e); goes = tt; own = own.0; request = same_request port.request note wake; fresh = fresh })
turned_step most wanted first port (turns.Paused job time) now after wake fresh own early =
    inr (record { begun = λ e. absurd (not_went (outcome_of port (turns.Paused job time) now) refl e); goes = tt; own = own; request = wake; fresh = fresh })
turned_step most wanted first port (turns.Failed fault) now after wake fresh own (inl early) = absurd (own.0 early)
turned_step most wanted first port (turns.Failed fault) now after wake fresh own (inr may) = absurd (own.1 may)
turned_step most wanted first port (turns.Left reason) now after wake fresh own early = absurd own

noted_outcome : (port : Port) (found : Option Op) (reply : Reply) (turn : Turn) (now : ℕ) → outcome_of (noting (answered port) found reply now) turn now ≡ outcome_of port turn now
noted_outcome port found reply (turns.On job note) now = refl
noted_outcome port found reply (turns.Paused job time) now = refl
noted_outcome port found reply (turns.Failed fault) now = refl
noted_outcome port found reply (turns.Left reason) now = refl

module _ (most : ℕ) (sim : SimModule) (has : HasHalves sim) (whole : AreWhole sim.image) (paged : IsPaged sim.image) (awaited : IsAwaited most sim.image) (wanted : Wanted) (first : SimModule) (same_image : sim.image ≡ first.image) (same_advert : sim.advert ≡ first.advert)
    (suits : Suits first wanted) (op : Op) (reply : Reply) (answers : Answers op reply) (gives : reply ≡ reply_of sim op) (port later : Port) (now : ℕ) (result : Outcome) (wake : port.request ≡ Wake) (early : IsSpared most first result) where
  abbrev after : SimModule
  after = module_after sim op

  job_step : (job : Job) (turn : Turn) → OwnJob most first job sim → (less : ℕ) → JobAt most job sim less → asked job ≡ Some op → IsAnyTurn (granted port.request wanted) job reply turn → result ≡ outcome_of port turn now
      → later ≡ turned (noting (answered port) (asked job) reply now) turn now → IsUpOrStep most wanted first result later after
  job_step job turn own less at asks leads outcome becomes =
      let noted = noting (answered port) (asked job) reply now in
      let same : granted port.request wanted ≡ wanted = ap (λ (request : Request). granted request wanted) wake ∙ granted_same wanted in
      let is : result ≡ outcome_of noted turn now = outcome ∙ sym (noted_outcome port (asked job) reply turn now) in
      let turned_own : OwnTurn most wanted first after turn =
      turn_own most sim has whole paged awaited wanted first same_image same_advert suits op reply answers gives job turn own less at asks (subst (λ (wanted : Wanted). IsAnyTurn wanted job reply turn) same leads) in
      subst (λ (later : Port). IsUpOrStep most wanted first result later after) (sym becomes)
      (subst (λ (result : Outcome). IsUpOrStep most wanted first result (turned noted turn now) after) (sym is) (turned_step most wanted first noted turn now after wake tt turned_own (subst (IsSpared most first) is early)))

  pub stage_step : (stage : Stage) → OwnStage most first stage sim → (less : ℕ) → StageAt most stage sim less → asked_in stage ≡ Some op → IsTurnedIn stage port reply wanted now result later → IsUpOrStep most wanted first result later after
  stage_step stages.Absent own less at asks is = absurd own
  stage_step (stages.Left reason) own less at asks is = absurd own
  stage_step (stages.Working job) own less at asks (turn, leads, outcome, becomes) = job_step job turn own less at asks (port.apply_refused, leads) outcome becomes

pub not_up : (most : ℕ) (first : SimModule) (stage : Stage) (sim : SimModule) → OwnStage most first stage sim → IsUpStage stage → ⊥
not_up most first stages.Absent sim own up = own
not_up most first (stages.Left reason) sim own up = own
not_up most first (stages.Working (jobs.Reading job woken)) sim own up = up
not_up most first (stages.Working (jobs.Waking job)) sim own up = up
not_up most first (stages.Working (jobs.Sleeping job)) sim own up = up
not_up most first (stages.Working (jobs.Provisioning job goal)) sim own up = up
not_up most first (stages.Working (jobs.Activating job goal)) sim own up = up
not_up most first (stages.Working (jobs.Confirming job)) sim own up = up
not_up most first (stages.Working (jobs.Watching job)) sim own up = own
