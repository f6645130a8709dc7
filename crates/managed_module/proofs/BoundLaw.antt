-- A port brings up a simulated module within a number of operations that the module's delays bound.
use Rattle.std.proofs.Common.{◌≡◌, ◌⊎◌, inl, inr, ℕ, ◌+◌, ◌*◌, ◌≤◌, ◌||◌, Bool, true, false, [], ◌∷◌, Option, Some, refl, sym, ap, subst, ◌∙◌, arith}
use Rattle.bus_model.specs.declared.operation.Op.{Op}
use Rattle.bus_model.specs.declared.operation.Reply.{Reply}
use Rattle.bus_model.specs.Operations.{Answers}
use Rattle.bus_model.specs.ScriptedBus.{passed_on, ticked_times}
use Rattle.port_manager.specs.declared.deciding.Wanted.{Wanted}
use Rattle.port_manager.specs.declared.job.Job.{Job}
use Rattle.port_manager.specs.declared.job.Job.TheVariants as jobs
use Rattle.port_manager.specs.declared.port.Outcome.{Outcome}
use Rattle.port_manager.specs.declared.port.Outstanding.{Outstanding}
use Rattle.port_manager.specs.declared.port.Outstanding.TheVariants as outstanding
use Rattle.port_manager.specs.declared.port.Port.{Port}
use Rattle.port_manager.specs.declared.port.Stage.{Stage}
use Rattle.port_manager.specs.declared.port.Stage.TheVariants as stages
use Rattle.port_manager.specs.declared.request.Request.{Request}
use Rattle.port_manager.specs.declared.request.Request.TheVariants.{Wake}
use Rattle.port_manager.specs.declared.turn.Note.{Note}
use Rattle.port_manager.specs.declared.turn.Note.TheVariants as notes
use Rattle.port_manager.specs.Turns.{Turn}
use Rattle.port_manager.specs.Turns as turns
use Rattle.port_manager.specs.Jobs.{IsReplyTo, asked}
use Rattle.port_manager.specs.Ports.{IsAwaitedBy, IsTakenBy, IsTurnedIn, answered, asked_in, awaited, noting, outcome_of, plugged, request_after, turned}
use Rattle.port_manager.specs.Requests.{granted, is_sleep}
use Rattle.port_manager.specs.Progress.{IsGoing, IsGoingOn, IsUpStage, made_in}
use Rattle.port_manager.specs.Stories.{Story, ask, drop, make, plug, pull, reconsider, acknowledge, hold, demand, hear}
use Rattle.port_manager.specs.Standing.{IsWatching}
use Rattle.port_manager.proofs.TurnProgress.{dropped_step, is_up_or_not, left, left_in, plugged_left, turn_nearer, turn_up}
use Rattle.sim_module.specs.declared.module.SimModule.{SimModule}
use Rattle.sim_module.specs.Modules.{conduct}
use Rattle.managed_module.specs.Bounds.{ComesUpWithin, IsSteady, WantsAwake, most_waits}
use Rattle.managed_module.specs.Managed.{HasHalves, IsCmisStage, Manages}
use Rattle.managed_module.proofs.Halves.{halves_passed, halves_paused, halves_ticked}
use Rattle.managed_module.proofs.JobSteps.{JobAt, job_paused}
use Rattle.managed_module.proofs.JobTurns.{Leads, turn_leads}
use Rattle.managed_module.proofs.ManagedLaw.{LinkedStage, stage_paused, turn_linked, turned_linked}
use Rattle.managed_module.proofs.OwnTasks.{module_after, reply_of}
use Rattle.managed_module.proofs.Waits.{LinkedJob}
use Rattle.port_manager.proofs.TurnCases.{IsAnyTurn}

-- ---- a stage

abbrev pub StageAt : ℕ → Stage → SimModule → ℕ → Type 0
StageAt most stages.Absent sim less = Unit {0}
StageAt most (stages.Left reason) sim less = Unit {0}
StageAt most (stages.Working job) sim less = JobAt most job sim less

stage_ticks : (most : ℕ) (stage : Stage) (count : ℕ) (sim : SimModule) (less : ℕ) → StageAt most stage sim less → StageAt most stage (ticked_times conduct count sim) less
stage_ticks most stages.Absent count sim less at = tt
stage_ticks most (stages.Left reason) count sim less at = tt
stage_ticks most (stages.Working job) count sim less at = job_paused most job count sim less at

-- the port asks for nothing but that the module is up, and so much is left to be waited for
pub record Keeps (most : ℕ) (port : Port) (sim : SimModule) (less : ℕ) : Type 0 where
  pub halves : HasHalves sim
  pub linked : LinkedStage port.stage sim
  pub request : port.request ≡ Wake
  pub at : StageAt most port.stage sim less

-- ---- one operation

pub same_request : (request : Request) (note : Note) → request ≡ Wake → request_after request note ≡ Wake
same_request request notes.CameUp is = ap (λ (r : Request). request_after r notes.CameUp) is
same_request request notes.Held is = is
same_request request notes.Quiet is = is
same_request request notes.Identified is = is
same_request request notes.Woken is = is
same_request request notes.Provisioned is = is

granted_awake : (request : Request) (wanted : Wanted) → request ≡ Wake → wanted.asleep ≡ false → (granted request wanted).asleep ≡ false
granted_awake request wanted is awake = ap (λ (r : Request). wanted.asleep || is_sleep r) is ∙ ap (λ (b : Bool). b || false) awake

-- unless it is up, less is left
record IsStep (most : ℕ) (before : Stage) (budget : ℕ) (port : Port) (sim : SimModule) : Type 0 where
  less : ℕ
  request : port.request ≡ Wake
  at : StageAt most port.stage sim less
  nearer : ¬ (IsUpStage port.stage) → (1 + (left_in port.stage + 3 * less) ≤ left_in before + 3 * budget) × (¬ (IsUpStage before))

module _ (most budget : ℕ) (sim : SimModule) (wanted : Wanted) (job : Job) (op : Op) (reply : Reply) (now : ℕ) (asks : asked job ≡ Some op) (answers : Answers op reply) where
  -- where the job isn't a look
  turned_step : (port : Port) (turn : Turn) → port.request ≡ Wake → IsAnyTurn wanted job reply turn → IsGoing (outcome_of port turn now) → ¬ (IsWatching job) → Leads most (left job) budget (module_after sim op) turn
      → IsStep most (stages.Working job) budget (turned port turn now) (module_after sim op)
  turned_step port (turns.On next note) wake leads goes stays (less, at, fewer) = record {
    less = less;
    request = same_request port.request note wake;
    at = at;
    nearer = λ not. (omega (arith, turn_nearer wanted op reply job (turns.On next note) stays asks answers leads, fewer), stays);
  }
  turned_step port (turns.Paused next time) wake leads goes stays (less, at, nearer) = record { less = less; request = wake; at = at; nearer = λ not. (omega (arith, nearer), stays) }
  turned_step port (turns.Failed fault) wake leads goes stays tells = absurd goes
  turned_step port (turns.Left reason) wake leads goes stays tells = absurd goes

  -- a look is followed by a look
  watched_step : (port : Port) (turn : Turn) → port.request ≡ Wake → IsAnyTurn wanted job reply turn → IsGoing (outcome_of port turn now) → IsWatching job → IsStep most (stages.Working job) budget (turned port turn now) (module_after sim op)
  watched_step port (turns.On next note) wake leads goes up =
      let still = turn_up wanted reply job (turns.On next note) up leads in
      record { less = 0; request = same_request port.request note wake; at = watching_at next still; nearer = λ not. absurd (not still) } where
        watching_at : (next : Job) → IsWatching next → JobAt most next (module_after sim op) 0
        watching_at (jobs.Reading job woken) up = absurd up
        watching_at (jobs.Waking job) up = absurd up
        watching_at (jobs.Sleeping job) up = absurd up
        watching_at (jobs.Provisioning job goal) up = absurd up
        watching_at (jobs.Activating job goal) up = absurd up
        watching_at (jobs.Confirming job) up = absurd up
        watching_at (jobs.Watching job) up = tt
  watched_step port (turns.Paused next time) wake leads goes up =
      let still = turn_up wanted reply job (turns.Paused next time) up leads in
      record { less = 0; request = wake; at = watching_at next still; nearer = λ not. absurd (not still) } where
        watching_at : (next : Job) → IsWatching next → JobAt most next (module_after sim op) 0
        watching_at (jobs.Reading job woken) up = absurd up
        watching_at (jobs.Waking job) up = absurd up
        watching_at (jobs.Sleeping job) up = absurd up
        watching_at (jobs.Provisioning job goal) up = absurd up
        watching_at (jobs.Activating job goal) up = absurd up
        watching_at (jobs.Confirming job) up = absurd up
        watching_at (jobs.Watching job) up = tt
  watched_step port (turns.Failed fault) wake leads goes up = absurd goes
  watched_step port (turns.Left reason) wake leads goes up = absurd goes

watching_or : (job : Job) → IsWatching job ⊎ ¬ (IsWatching job)
watching_or (jobs.Reading job woken) = inr (λ up. up)
watching_or (jobs.Waking job) = inr (λ up. up)
watching_or (jobs.Sleeping job) = inr (λ up. up)
watching_or (jobs.Provisioning job goal) = inr (λ up. up)
watching_or (jobs.Activating job goal) = inr (λ up. up)
watching_or (jobs.Confirming job) = inr (λ up. up)
watching_or (jobs.Watching job) = inl tt

-- what is noted of flags changes neither the outcome nor what was asked
noted_outcome : (port : Port) (found : Option Op) (reply : Reply) (turn : Turn) (now : ℕ) → outcome_of (noting (answered port) found reply now) turn now ≡ outcome_of port turn now
noted_outcome port found reply (turns.On job note) now = refl
noted_outcome port found reply (turns.Paused job time) now = refl
noted_outcome port found reply (turns.Failed fault) now = refl
noted_outcome port found reply (turns.Left reason) now = refl

-- both what is linked and what is left
abbrev Both : ℕ → Stage → ℕ → Port → SimModule → Type 0
Both most before budget port sim = LinkedStage port.stage sim × IsStep most before budget port sim

job_step : (most budget : ℕ) (sim : SimModule) (port after : Port) (job : Job) (op : Op) (reply : Reply) (wanted : Wanted) (now : ℕ) (turn : Turn) (result : Outcome) → HasHalves sim → IsCmisStage (stages.Working job) → LinkedJob job sim → JobAt most job sim budget
    → port.request ≡ Wake → wanted.asleep ≡ false → asked job ≡ Some op → Answers op reply → reply ≡ reply_of sim op → IsGoing result → IsAnyTurn (granted port.request wanted) job reply turn → result ≡ outcome_of port turn now
    → after ≡ turned (noting (answered port) (asked job) reply now) turn now → Both most (stages.Working job) budget after (module_after sim op)
job_step most budget sim port after job op reply wanted now turn result has cmis link at wake awake asks answers gives goes leads outcome becomes =
    let noted = noting (answered port) (asked job) reply now in
    let going : IsGoing (outcome_of noted turn now) = subst IsGoing (outcome ∙ sym (noted_outcome port (asked job) reply turn now)) goes in
    let may = granted port.request wanted in
    let linked = turned_linked sim may job op reply now has cmis link asks answers gives noted turn going (turn_linked sim may job op reply turn has cmis link asks answers gives leads) in
    subst (λ (after : Port). Both most (stages.Working job) budget after (module_after sim op)) (sym becomes) (linked, by noted going (watching_or job)) where
      by : (noted : Port) → IsGoing (outcome_of (noting (answered port) (asked job) reply now) turn now) → IsWatching job ⊎ ¬ (IsWatching job)
          → IsStep most (stages.Working job) budget (turned (noting (answered port) (asked job) reply now) turn now) (module_after sim op)
      by noted going (inl up) = watched_step most budget sim (granted port.request wanted) job op reply now asks answers (noting (answered port) (asked job) reply now) turn wake leads going up
      by noted going (inr stays) =
          turned_step most budget sim (granted port.request wanted) job op reply now asks answers (noting (answered port) (asked job) reply now) turn wake leads going stays
          (turn_leads most budget sim op reply has answers gives (granted port.request wanted) job turn (granted_awake port.request wanted wake awake) cmis link stays at asks leads)

stage_step : (most budget : ℕ) (stage : Stage) (sim : SimModule) (port after : Port) (op : Op) (reply : Reply) (wanted : Wanted) (now : ℕ) (result : Outcome) → HasHalves sim → IsCmisStage stage → LinkedStage stage sim → StageAt most stage sim budget
    → port.request ≡ Wake → wanted.asleep ≡ false → asked_in stage ≡ Some op → Answers op reply → reply ≡ reply_of sim op → IsGoing result → IsTurnedIn stage port reply wanted now result after → Both most stage budget after (module_after sim op)
stage_step most budget stages.Absent sim port after op reply wanted now result has cmis link at wake awake asks answers gives goes is = absurd (let same = asks in cc)
stage_step most budget (stages.Left reason) sim port after op reply wanted now result has cmis link at wake awake asks answers gives goes is = absurd (let same = asks in cc)
stage_step most budget (stages.Working job) sim port after op reply wanted now result has cmis link at wake awake asks answers gives goes (turn, leads, outcome, becomes) =
    job_step most budget sim port after job op reply wanted now turn result has cmis link at wake awake asks answers gives goes (port.apply_refused, leads) outcome becomes

taken_step : (most budget : ℕ) (o : Outstanding) (sim : SimModule) (port after : Port) (op : Op) (reply : Reply) (wanted : Wanted) (now : ℕ) (result : Outcome) → Keeps most port sim budget → IsCmisStage port.stage → wanted.asleep ≡ false → awaited port ≡ Some op
    → IsAwaitedBy o port reply → reply ≡ reply_of sim op → IsGoing result → IsTakenBy o port reply wanted now result after → Both most port.stage budget after (module_after sim op)
taken_step most budget outstanding.Nothing sim port after op reply wanted now result keeps cmis awake asks answers gives goes is = absurd (subst IsGoing is.0 goes)
taken_step most budget outstanding.Awaited sim port after op reply wanted now result keeps cmis awake asks answers gives goes is =
    stage_step most budget port.stage sim port after op reply wanted now result keeps.halves cmis keeps.linked keeps.at keeps.request awake asks (subst (λ (found : Option Op). IsReplyTo found reply) asks answers) gives goes is
taken_step most budget outstanding.Stale sim port after op reply wanted now result keeps cmis awake asks answers gives goes is = absurd (dropped_step port.stage port reply now result after goes is)
taken_step most budget outstanding.Forsaken sim port after op reply wanted now result keeps cmis awake asks answers gives goes is = absurd (subst IsGoing is.0 goes)

-- ---- a whole story

pub record IsReached (most budget : ℕ) (first : Stage) (story : Story) (port : Port) (sim : SimModule) : Type 0 where
  pub less : ℕ
  pub keeps : Keeps most port sim less
  pub nearer : ¬ (IsUpStage port.stage) → made_in story + (left_in port.stage + 3 * less) ≤ left_in first + 3 * budget

-- an event that makes no operation
idle_reached : (most budget : ℕ) (first : Stage) (before story : Story) (between later : Port) (sim after : SimModule) (reached : IsReached most budget first before between sim) → later.stage ≡ between.stage → later.request ≡ between.request
    → ((less : ℕ) → Keeps most between sim less → Keeps most between after less) → made_in story ≡ made_in before → IsReached most budget first story later after
idle_reached most budget first before story between later sim after reached e same keeps made =
    let kept = keeps reached.less reached.keeps in
    record {
      less = reached.less;
      keeps = record {
        halves = kept.halves;
        linked = subst (λ (stage : Stage). LinkedStage stage after) (sym e) kept.linked;
        request = same ∙ kept.request;
        at = subst (λ (stage : Stage). StageAt most stage after reached.less) (sym e) kept.at;
      };
      nearer = λ not. omega (arith, reached.nearer (λ up. not (subst IsUpStage (sym e) up)), ap left_in e, made);
    }

same_keeps : (most : ℕ) (port : Port) (sim after : SimModule) (less : ℕ) → after ≡ sim → Keeps most port sim less → Keeps most port after less
same_keeps most port sim after less is keeps = subst (λ (s : SimModule). Keeps most port s less) (sym is) keeps

paused_keeps : (most : ℕ) (port : Port) (count : ℕ) (sim after : SimModule) (less : ℕ) → after ≡ ticked_times conduct count sim → Keeps most port sim less → Keeps most port after less
paused_keeps most port count sim after less is keeps =
    same_keeps most port (ticked_times conduct count sim) after less is (record {
      halves = halves_paused count sim keeps.halves;
      linked = stage_paused port.stage count sim keeps.linked;
      request = keeps.request;
      at = stage_ticks most port.stage count sim less keeps.at;
    })

pub runs_reached : (most budget : ℕ) (port later : Port) (sim after : SimModule) (story : Story) → Keeps most port sim budget → Manages port sim story later after → IsGoingOn story → WantsAwake story → IsReached most budget port.stage story later after
runs_reached most budget port later sim after [] keeps (is, same) goes wants =
    let kept = same_keeps most port sim after budget same keeps in
    record {
      less = budget;
      keeps = subst (λ (p : Port). Keeps most p after budget) (sym is) kept;
      nearer = λ not. omega (arith, ap (λ (p : Port). left_in p.stage) is);
    }
runs_reached most budget port later sim after (plug now ∷ before) keeps ran goes wants = absurd goes
runs_reached most budget port later sim after (pull ∷ before) keeps ran goes wants = absurd goes
runs_reached most budget port later sim after (reconsider ∷ before) keeps ran goes wants = absurd goes
runs_reached most budget port later sim after (hold held ∷ before) keeps ran goes wants = absurd goes
runs_reached most budget port later sim after (demand request ∷ before) keeps ran goes wants = absurd goes
runs_reached most budget port later sim after (acknowledge past ∷ before) keeps (between, then_sim, ran, cmis, is, same) goes wants =
    let reached = runs_reached most budget port between sim then_sim before keeps ran goes wants in
    idle_reached most budget port.stage before (acknowledge past ∷ before) between later then_sim after reached (ap (λ (p : Port). p.stage) is) (ap (λ (p : Port). p.request) is) (λ less kept. same_keeps most between then_sim after less same kept) refl
runs_reached most budget port later sim after (hear alive began ∷ before) keeps (between, then_sim, ran, cmis, is, same) goes wants =
    let reached = runs_reached most budget port between sim then_sim before keeps ran goes wants in
    idle_reached most budget port.stage before (hear alive began ∷ before) between later then_sim after reached (ap (λ (p : Port). p.stage) is) (ap (λ (p : Port). p.request) is) (λ less kept. same_keeps most between then_sim after less same kept) refl
runs_reached most budget port later sim after (ask op moment ∷ before) keeps (between, then_sim, ran, cmis, (asks, is), (count, same)) goes wants =
    let reached = runs_reached most budget port between sim then_sim before keeps ran goes wants in
    idle_reached most budget port.stage before (ask op moment ∷ before) between later then_sim after reached (ap (λ (p : Port). p.stage) is) (ap (λ (p : Port). p.request) is) (λ less kept. paused_keeps most between count then_sim after less same kept) refl
runs_reached most budget port later sim after (drop ∷ before) keeps (between, then_sim, ran, cmis, (forsaken, is), same) goes wants =
    let reached = runs_reached most budget port between sim then_sim before keeps ran goes wants in
    idle_reached most budget port.stage before (drop ∷ before) between later then_sim after reached (ap (λ (p : Port). p.stage) is) (ap (λ (p : Port). p.request) is) (λ less kept. same_keeps most between then_sim after less same kept) refl
runs_reached most budget port later sim after (make op reply wanted now result ∷ before) keeps (between, then_sim, ran, cmis, (waited, asks, answers, is), (gives, same)) goes wants =
    let reached = runs_reached most budget port between sim then_sim before keeps ran goes.1 wants.1 in
    let (linked, step) = taken_step most reached.less between.outstanding then_sim between later op reply wanted now result reached.keeps cmis wants.0 asks answers gives goes.0 is in
    let has : HasHalves (module_after then_sim op) = halves_ticked (passed_on conduct op then_sim).1 (halves_passed op then_sim reached.keeps.halves) in
    record {
      less = step.less;
      keeps = same_keeps most later (module_after then_sim op) after step.less same (record { halves = has; linked = linked; request = step.request; at = step.at });
      nearer = λ not. (let one = step.nearer not in omega (arith, one.0, reached.nearer one.1));
    }

pub plugged_keeps : (most : ℕ) (port : Port) (sim : SimModule) (now : ℕ) → HasHalves sim → IsSteady most sim → Keeps most (plugged now port) sim (most_waits most)
plugged_keeps most port sim now has steady = record { halves = has; linked = λ opened. absurd (let same : false ≡ true = opened in cc); request = refl; at = (steady, omega arith) }

pub comes_up_within : ComesUpWithin
comes_up_within most port later sim after now story has steady ran goes wants many =
    let reached = runs_reached most (most_waits most) (plugged now port) later sim after story (plugged_keeps most port sim now has steady) ran goes wants in
    elim (is_up_or_not later.stage) as (λ _. IsUpStage later.stage) [
      | inl up ↦ up
      | inr not ↦ absurd (omega (arith, reached.nearer not, plugged_left port now, many))
    ]
