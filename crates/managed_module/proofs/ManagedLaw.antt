-- A port at work on a simulated module: each operation that reads no state brings the module nearer to being up.
use Rattle.std.proofs.Common.{◌≡◌, ◌≤◌, ◌+◌, ◌*◌, ◌⊎◌, inl, inr, ℕ, Bool, true, false, [], ◌∷◌, Option, Some, None, refl, sym, ap, subst, ◌∙◌, arith}
use Rattle.std.specs.Prelude.{if◌then◌else◌}
use Rattle.bus_model.specs.declared.operation.Op.{Op}
use Rattle.bus_model.specs.declared.operation.Reply.{Reply}
use Rattle.bus_model.specs.Operations.{Answers}
use Rattle.bus_model.specs.ScriptedBus.{passed_on, ticked_times}
use Rattle.conversations.specs.declared.on_page.OnPage.{OnPage}
use Rattle.conversations.specs.declared.pausing.Patience.{Patience}
use Rattle.port_manager.specs.declared.deciding.Decision.{Decision}
use Rattle.port_manager.specs.declared.deciding.Decision.TheVariants.{Leave, Wake, Sleep, Hold, Activate, Provision}
use Rattle.port_manager.specs.declared.deciding.Wanted.{Wanted}
use Rattle.port_manager.specs.declared.job.Job.{Job}
use Rattle.port_manager.specs.declared.job.Job.TheVariants as jobs
use Rattle.port_manager.specs.declared.port.Outcome.{Outcome}
use Rattle.port_manager.specs.declared.port.Outstanding.{Outstanding}
use Rattle.port_manager.specs.declared.port.Outstanding.TheVariants as outstanding
use Rattle.port_manager.specs.declared.port.Port.{Port}
use Rattle.port_manager.specs.declared.port.Stage.{Stage}
use Rattle.port_manager.specs.declared.port.Stage.TheVariants as stages
use Rattle.port_manager.specs.Turns.{Turn}
use Rattle.port_manager.specs.Turns as turns
use Rattle.port_manager.specs.Jobs.{IsReplyTo, asked}
use Rattle.port_manager.specs.Patients.{Paged}
use Rattle.port_manager.specs.Ports.{IsAwaitedBy, IsTakenBy, IsTurnedIn, answered, asked_in, awaited, noting, outcome_of, plugged, turned}
use Rattle.port_manager.specs.Requests.{granted}
use Rattle.port_manager.specs.Progress.{IsGoing, IsGoingOn, IsUpStage, made_in, pauses_by}
use Rattle.port_manager.specs.Stories.{Story, ask, drop, make, plug, pull, reconsider, acknowledge, hold, demand, hear}
use Rattle.port_manager.specs.Standing.{IsWatching}
use Rattle.port_manager.specs.Turns.{decided, going}
use Rattle.port_manager.proofs.TurnCases.{Follows, IsAnyTurn, later, pause_of, turn_all}
use Rattle.port_manager.proofs.TurnLaws.{IfOn, on_going}
use Rattle.port_manager.proofs.TurnProgress.{dropped_step, is_up_or_not, left, left_in, plugged_left, same_outcome, turn_nearer, turn_up}
use Rattle.sim_module.specs.declared.module.SimModule.{SimModule}
use Rattle.sim_module.specs.Modules.{conduct}
use Rattle.sim_module.specs.Ticks.{ticked}
use Rattle.managed_module.specs.Managed.{HasHalves, IsCmisJob, IsCmisStage, ManagedComesUp, Manages, reads_state, waits_by, waits_in}
use Rattle.managed_module.proofs.Halves.{halves_passed, halves_paused, halves_ticked, selected_paused}
use Rattle.managed_module.proofs.Links.{Link}
use Rattle.managed_module.proofs.Waits.{LinkedJob, job_linked, job_waits}

-- ---- links over turns

-- nothing is awaited at the beginning
decided_linked : (sim : SimModule) (woken requested : Bool) (patience : Patience) (decision : Decision) → IfOn (decided woken requested patience decision) (λ job. LinkedJob job sim)
decided_linked sim woken requested patience (Leave reason) = tt
decided_linked sim true requested patience Wake = tt
decided_linked sim false requested patience Wake = tt
decided_linked sim woken requested patience Sleep = tt
decided_linked sim woken requested patience (Hold goal) = tt
decided_linked sim woken requested patience (Activate goal) = λ opened. absurd (let same : false ≡ true = opened in cc)
decided_linked sim woken requested patience (Provision goal) = λ opened. absurd (let same : false ≡ true = opened in cc)

follows_linked : (sim : SimModule) (wanted : Wanted) (job : Job) (reply : Reply) → Follows (λ turn. IfOn turn (λ job. LinkedJob job sim)) wanted job reply
follows_linked sim wanted (jobs.Reading job woken) reply = λ decision whole judged. decided_linked sim woken _ _ decision
follows_linked sim wanted (jobs.Waking job) reply = λ opened. absurd (let same : false ≡ true = opened in cc)
follows_linked sim wanted (jobs.Sleeping job) reply = tt
follows_linked sim wanted (jobs.Provisioning job goal) reply = λ opened. absurd (let same : false ≡ true = opened in cc)
follows_linked sim wanted (jobs.Activating job goal) reply = λ opened. absurd (let same : false ≡ true = opened in cc)
follows_linked sim wanted (jobs.Confirming job) reply = tt
follows_linked sim wanted (jobs.Watching job) reply = tt

pub turn_linked : (sim : SimModule) (wanted : Wanted) (job : Job) (op : Op) (reply : Reply) (turn : Turn) → HasHalves sim → IsCmisJob job → LinkedJob job sim → asked job ≡ Some op → Answers op reply → reply ≡ (passed_on conduct op sim).0
    → IsAnyTurn wanted job reply turn → IfOn turn (λ job. LinkedJob job (ticked (passed_on conduct op sim).1))
turn_linked sim wanted job op reply turn has cmis link asks answers gives is =
    let after = ticked (passed_on conduct op sim).1 in
    turn_all (λ turn. IfOn turn (λ job. LinkedJob job after)) (λ why. tt) wanted job reply turn
    (λ next e. on_going (λ job. LinkedJob job after) (pause_of job reply) (later job reply) (job_linked sim job op reply has cmis link asks answers gives))
    (follows_linked after wanted job reply) is

-- a pause comes after a read of a state, or the job came nearer to its end
abbrev Waits : ℕ → Op → Turn → Type 0
Waits before op (turns.On job note) = Unit {0}
Waits before op (turns.Paused job time) = (left job + 1 ≤ before) ⊎ (reads_state op ≡ true)
Waits before op (turns.Failed fault) = Unit {0}
Waits before op (turns.Left reason) = Unit {0}

going_waits : (before : ℕ) (op : Op) (pause : Option ℕ) (job : Job) → (left job + 1 ≤ before) ⊎ (reads_state op ≡ true) → Waits before op (going pause job)
going_waits before op None job either = tt
going_waits before op (Some time) job either = either

decided_waits : (before : ℕ) (op : Op) (woken requested : Bool) (patience : Patience) (decision : Decision) → Waits before op (decided woken requested patience decision)
decided_waits before op woken requested patience (Leave reason) = tt
decided_waits before op true requested patience Wake = tt
decided_waits before op false requested patience Wake = tt
decided_waits before op woken requested patience Sleep = tt
decided_waits before op woken requested patience (Hold goal) = tt
decided_waits before op woken requested patience (Activate goal) = tt
decided_waits before op woken requested patience (Provision goal) = tt

follows_waits : (before : ℕ) (op : Op) (wanted : Wanted) (job : Job) (reply : Reply) → Follows (Waits before op) wanted job reply
follows_waits before op wanted (jobs.Reading job woken) reply = λ decision whole judged. decided_waits before op woken _ _ decision
follows_waits before op wanted (jobs.Waking job) reply = tt
follows_waits before op wanted (jobs.Sleeping job) reply = tt
follows_waits before op wanted (jobs.Provisioning job goal) reply = tt
follows_waits before op wanted (jobs.Activating job goal) reply = tt
follows_waits before op wanted (jobs.Confirming job) reply = tt
follows_waits before op wanted (jobs.Watching job) reply = tt

turn_waits : (sim : SimModule) (wanted : Wanted) (job : Job) (op : Op) (reply : Reply) (turn : Turn) → HasHalves sim → IsCmisJob job → LinkedJob job sim → ¬ (IsWatching job) → asked job ≡ Some op → Answers op reply
    → reply ≡ (passed_on conduct op sim).0 → IsAnyTurn wanted job reply turn → Waits (left job) op turn
turn_waits sim wanted job op reply turn has cmis link stays asks answers gives is =
    turn_all (Waits (left job) op) (λ why. tt) wanted job reply turn
    (λ next e. going_waits (left job) op (pause_of job reply) (later job reply) (job_waits sim job op reply has cmis link stays asks answers gives)) (follows_waits (left job) op wanted job reply) is

-- ---- one event

abbrev pub LinkedStage : Stage → SimModule → Type 0
LinkedStage stages.Absent sim = Unit {0}
LinkedStage (stages.Left reason) sim = Unit {0}
LinkedStage (stages.Working job) sim = LinkedJob job sim

link_paused : {C E : Type 0} (paged : Paged C E) (on : OnPage C) (count : ℕ) (sim : SimModule) → Link paged on sim → Link paged on (ticked_times conduct count sim)
link_paused paged on count sim link = λ opened.
    let linked = link opened in
    record { page = linked.page; needs = linked.needs; selected = selected_paused count sim linked.page linked.selected; taken = linked.taken }

job_paused : (job : Job) (count : ℕ) (sim : SimModule) → LinkedJob job sim → LinkedJob job (ticked_times conduct count sim)
job_paused (jobs.Reading job woken) count sim link = link_paused _ job.conversation.conversation count sim link
job_paused (jobs.Waking job) count sim link = tt
job_paused (jobs.Sleeping job) count sim link = tt
job_paused (jobs.Provisioning job goal) count sim link = link_paused _ job.conversation.conversation count sim link
job_paused (jobs.Activating job goal) count sim link = link_paused _ job.conversation.conversation count sim link
job_paused (jobs.Confirming job) count sim link = link_paused _ job.conversation.conversation count sim link
job_paused (jobs.Watching job) count sim link = tt

pub stage_paused : (stage : Stage) (count : ℕ) (sim : SimModule) → LinkedStage stage sim → LinkedStage stage (ticked_times conduct count sim)
stage_paused stages.Absent count sim link = tt
stage_paused (stages.Left reason) count sim link = tt
stage_paused (stages.Working job) count sim link = job_paused job count sim link

abbrev Holds : Stage → SimModule → Type 0
Holds stage sim = HasHalves sim × LinkedStage stage sim

-- what one operation brings
abbrev IsStep : Stage → ℕ → Stage → Type 0
IsStep before waited after = ¬ (IsUpStage after) → (1 + left_in after ≤ left_in before + 3 * waited) × (¬ (IsUpStage before))

waited_if : (op : Op) (result : Outcome) (more before : ℕ) → reads_state op ≡ true → pauses_by result ≡ 1 → more ≤ before + 2 → 1 + more ≤ before + 3 * waits_by op result
waited_if op result more before reads pauses few = omega (arith, ap (λ (b : Bool). if b then pauses_by result else 0) reads, pauses, few)

paused_step : (op : Op) (result : Outcome) (more before : ℕ) → pauses_by result ≡ 1 → more ≤ before + 2 → (more + 1 ≤ before) ⊎ (reads_state op ≡ true) → 1 + more ≤ before + 3 * waits_by op result
paused_step op result more before pauses few (inl nearer) = omega (arith, nearer)
paused_step op result more before pauses few (inr reads) = waited_if op result more before reads pauses few

module _ (sim : SimModule) (wanted : Wanted) (job : Job) (op : Op) (reply : Reply) (now : ℕ) (has : HasHalves sim) (cmis : IsCmisJob job) (link : LinkedJob job sim) (asks : asked job ≡ Some op) (answers : Answers op reply)
    (gives : reply ≡ (passed_on conduct op sim).0) where
  pub turned_linked : (port : Port) (turn : Turn) → IsGoing (outcome_of port turn now) → IfOn turn (λ job. LinkedJob job (ticked (passed_on conduct op sim).1)) → LinkedStage (turned port turn now).stage (ticked (passed_on conduct op sim).1)
  turned_linked port (turns.On next note) goes linked = linked
  turned_linked port (turns.Paused next time) goes linked = linked
  turned_linked port (turns.Failed fault) goes linked = absurd goes
  turned_linked port (turns.Left reason) goes linked = absurd goes

  turned_step : (port : Port) (turn : Turn) → IsAnyTurn wanted job reply turn → IsGoing (outcome_of port turn now) → IsStep (stages.Working job) (waits_by op (outcome_of port turn now)) (turned port turn now).stage
  turned_step port (turns.On next note) leads goes = λ not.
      let stays : ¬ (IsWatching job) = λ up. not (turn_up wanted reply job (turns.On next note) up leads) in
      (omega (arith, turn_nearer wanted op reply job (turns.On next note) stays asks answers leads), stays)
  turned_step port (turns.Paused next time) leads goes = λ not.
      let stays : ¬ (IsWatching job) = λ up. not (turn_up wanted reply job (turns.Paused next time) up leads) in (
        paused_step op (outcome_of port (turns.Paused next time) now) (left next) (left job) refl (turn_nearer wanted op reply job (turns.Paused next time) stays asks answers leads)
            (turn_waits sim wanted job op reply (turns.Paused next time) has cmis link stays asks answers gives leads),
        stays,
      )
  turned_step port (turns.Failed fault) leads goes = absurd goes
  turned_step port (turns.Left reason) leads goes = absurd goes

  pub turn_step : (port after : Port) (turn : Turn) (result : Outcome) → IsAnyTurn wanted job reply turn → result ≡ outcome_of port turn now → IsGoing result → after ≡ turned (noting (answered port) (asked job) reply now) turn now
      → LinkedStage after.stage (ticked (passed_on conduct op sim).1) × IsStep (stages.Working job) (waits_by op result) after.stage
  turn_step port after turn result leads is goes becomes =
      let noted = noting (answered port) (asked job) reply now in
      let outcome : result ≡ outcome_of noted turn now = is ∙ sym (same_outcome port (asked job) reply turn now) in
      let going_on = subst IsGoing outcome goes in (
        subst (λ (after : Port). LinkedStage after.stage (ticked (passed_on conduct op sim).1)) (sym becomes) (turned_linked noted turn going_on (turn_linked sim wanted job op reply turn has cmis link asks answers gives leads)),
        subst (λ (after : Port). IsStep (stages.Working job) (waits_by op result) after.stage) (sym becomes)
            (subst (λ (result : Outcome). IsStep (stages.Working job) (waits_by op result) (turned noted turn now).stage) (sym outcome) (turned_step noted turn leads going_on)),
      )

stage_step : (stage : Stage) (sim : SimModule) (port after : Port) (op : Op) (reply : Reply) (wanted : Wanted) (now : ℕ) (result : Outcome) → HasHalves sim → IsCmisStage stage → LinkedStage stage sim → asked_in stage ≡ Some op
    → Answers op reply → reply ≡ (passed_on conduct op sim).0 → IsGoing result → IsTurnedIn stage port reply wanted now result after
    → LinkedStage after.stage (ticked (passed_on conduct op sim).1) × IsStep stage (waits_by op result) after.stage
stage_step stages.Absent sim port after op reply wanted now result has cmis link asks answers gives goes is = absurd (let same = asks in cc)
stage_step (stages.Left reason) sim port after op reply wanted now result has cmis link asks answers gives goes is = absurd (let same = asks in cc)
stage_step (stages.Working job) sim port after op reply wanted now result has cmis link asks answers gives goes (turn, leads, outcome, becomes) =
    turn_step sim (granted port.request wanted) job op reply now has cmis link asks answers gives port after turn result (port.apply_refused, leads) outcome goes becomes

taken_step : (o : Outstanding) (sim : SimModule) (port after : Port) (op : Op) (reply : Reply) (wanted : Wanted) (now : ℕ) (result : Outcome) → HasHalves sim → IsCmisStage port.stage → LinkedStage port.stage sim → awaited port ≡ Some op
    → IsAwaitedBy o port reply → reply ≡ (passed_on conduct op sim).0 → IsGoing result → IsTakenBy o port reply wanted now result after
    → LinkedStage after.stage (ticked (passed_on conduct op sim).1) × IsStep port.stage (waits_by op result) after.stage
taken_step outstanding.Nothing sim port after op reply wanted now result has cmis link asks answers gives goes is = absurd (subst IsGoing is.0 goes)
taken_step outstanding.Awaited sim port after op reply wanted now result has cmis link asks answers gives goes is =
    stage_step port.stage sim port after op reply wanted now result has cmis link asks (subst (λ (found : Option Op). IsReplyTo found reply) asks answers) gives goes is
taken_step outstanding.Stale sim port after op reply wanted now result has cmis link asks answers gives goes is = absurd (dropped_step port.stage port reply now result after goes is)
taken_step outstanding.Forsaken sim port after op reply wanted now result has cmis link asks answers gives goes is = absurd (subst IsGoing is.0 goes)

-- ---- a whole story

same_holds : (before after : Stage) (sim sim_after : SimModule) → after ≡ before → sim_after ≡ sim → Holds before sim → Holds after sim_after
same_holds before after sim sim_after e f holds = subst (λ (stage : Stage). Holds stage sim_after) (sym e) (subst (Holds before) (sym f) holds)

abbrev Reached : Port → Story → Port → SimModule → Type 0
Reached port story later after = Holds later.stage after × (¬ (IsUpStage later.stage) → made_in story + left_in later.stage ≤ left_in port.stage + 3 * waits_in story)

-- an event that makes no operation
idle_reached : (port between later : Port) (before story : Story) (sim after : SimModule) → Reached port before between sim → later.stage ≡ between.stage → Holds later.stage after → made_in story ≡ made_in before → waits_in story ≡ waits_in before
    → Reached port story later after
idle_reached port between later before story sim after reached e holds made waits =
    (holds, λ not. omega (arith, reached.1 (λ up. not (subst IsUpStage (sym e) up)), ap left_in e, made, waits))

runs_reached : (port later : Port) (sim after : SimModule) (story : Story) → Holds port.stage sim → Manages port sim story later after → IsGoingOn story → Reached port story later after
runs_reached port later sim after [] holds (is, same) goes =
    let e = ap (λ (port : Port). port.stage) is in
    (same_holds port.stage later.stage sim after e same holds, λ not. omega (arith, ap left_in e))
runs_reached port later sim after (plug now ∷ before) holds ran goes = absurd goes
runs_reached port later sim after (pull ∷ before) holds ran goes = absurd goes
runs_reached port later sim after (reconsider ∷ before) holds ran goes = absurd goes
runs_reached port later sim after (hold held ∷ before) holds ran goes = absurd goes
runs_reached port later sim after (demand request ∷ before) holds ran goes = absurd goes
runs_reached port later sim after (acknowledge past ∷ before) holds (between, then_sim, ran, cmis, is, same) goes =
    let reached = runs_reached port between sim then_sim before holds ran goes in
    let e = ap (λ (port : Port). port.stage) is in
    idle_reached port between later before (acknowledge past ∷ before) then_sim after reached e (same_holds between.stage later.stage then_sim after e same reached.0) refl refl
runs_reached port later sim after (hear alive began ∷ before) holds (between, then_sim, ran, cmis, is, same) goes =
    let reached = runs_reached port between sim then_sim before holds ran goes in
    let e = ap (λ (port : Port). port.stage) is in
    idle_reached port between later before (hear alive began ∷ before) then_sim after reached e (same_holds between.stage later.stage then_sim after e same reached.0) refl refl
runs_reached port later sim after (ask op moment ∷ before) holds (between, then_sim, ran, cmis, (asks, is), (count, same)) goes =
    let reached = runs_reached port between sim then_sim before holds ran goes in
    let e = ap (λ (port : Port). port.stage) is in
    idle_reached port between later before (ask op moment ∷ before) then_sim after reached e
    (same_holds between.stage later.stage (ticked_times conduct count then_sim) after e same (halves_paused count then_sim reached.0.0, stage_paused between.stage count then_sim reached.0.1)) refl refl
runs_reached port later sim after (drop ∷ before) holds (between, then_sim, ran, cmis, (forsaken, is), same) goes =
    let reached = runs_reached port between sim then_sim before holds ran goes in
    let e = ap (λ (port : Port). port.stage) is in
    idle_reached port between later before (drop ∷ before) then_sim after reached e (same_holds between.stage later.stage then_sim after e same reached.0) refl refl
runs_reached port later sim after (make op reply wanted now result ∷ before) holds (between, then_sim, ran, cmis, (waited, asks, answers, is), (gives, same)) goes =
    let reached = runs_reached port between sim then_sim before holds ran goes.1 in
    let step = taken_step between.outstanding then_sim between later op reply wanted now result reached.0.0 cmis reached.0.1 asks answers gives goes.0 is in
    let has : HasHalves (ticked (passed_on conduct op then_sim).1) = halves_ticked (passed_on conduct op then_sim).1 (halves_passed op then_sim reached.0.0) in (
      subst (Holds later.stage) (sym same) (has, step.0),
      λ not. (let one = step.1 not in omega (arith, one.0, reached.1 one.1)),
    )

pub managed_comes_up : ManagedComesUp
managed_comes_up port later sim after now story has ran goes many =
    let reached = runs_reached (plugged now port) later sim after story (has, λ opened. absurd (let same : false ≡ true = opened in cc)) ran goes in
    elim (is_up_or_not later.stage) as (λ _. IsUpStage later.stage) [
      | inl up ↦ up
      | inr not ↦ absurd (omega (arith, reached.1 not, plugged_left port now, many))
    ]
