-- Each operation brings the module nearer to being up, or is followed by a pause.
use Rattle.std.proofs.Common.{◌≡◌, ◌≤◌, ◌<◌, ◌+◌, ◌*◌, ◌⊎◌, inl, inr, ℕ, Bool, true, false, List, [], ◌∷◌, Option, Some, None, refl, sym, ap, subst, ◌∙◌, arith}
use Rattle.std.specs.Prelude.{◌-◌, slice_get}
use Rattle.bus_model.specs.declared.operation.Op.{Op}
use Rattle.bus_model.specs.declared.operation.Reply.{Reply}
use Rattle.bus_model.specs.Operations.{Answers}
use Rattle.conversations.specs.declared.pausing.Patience.{Patience}
use Rattle.module_reading.specs.declared.region.Region.{Region}
use Rattle.module_reading.specs.ImageReading.{page_by}
use Rattle.module_reading.specs.Regions.{everything}
use Rattle.module_reading.proofs.RegionLaws.{asked_of_nothing}
use Rattle.paged_memory.specs.declared.page_addressing.KnownPage.TheVariants.{Unknown}
use Rattle.port_manager.specs.declared.deciding.Decision.{Decision}
use Rattle.port_manager.specs.declared.deciding.Decision.TheVariants.{Leave, Wake, Sleep, Hold, Activate, Provision}
use Rattle.port_manager.specs.declared.deciding.Wanted.{Wanted}
use Rattle.port_manager.specs.declared.job.Job.{Job}
use Rattle.port_manager.specs.declared.job.Job.TheVariants as jobs
use Rattle.port_manager.specs.declared.port.Outcome.{Outcome}
use Rattle.port_manager.specs.declared.port.Outstanding.{Outstanding}
use Rattle.port_manager.specs.declared.port.Outstanding.TheVariants as outstanding
use Rattle.port_manager.specs.declared.port.Port.{Port}
use Rattle.port_manager.specs.declared.port.Stage.{Stage}
use Rattle.port_manager.specs.declared.port.Stage.TheVariants as stages
use Rattle.port_manager.specs.Turns.{Turn}
use Rattle.port_manager.specs.Turns as turns
use Rattle.port_manager.specs.Jobs.{IsReplyTo, activating, asked, confirming, paged_halves, paged_look, paged_tasks, procedure_after, provisioning, reading}
use Rattle.port_manager.specs.Ports.{IsAwaitedBy, IsRestartedIn, IsTakenBy, IsTurnedIn, answered, asked_in, awaited, noting, outcome_of, plugged, turned}
use Rattle.port_manager.specs.Progress.{IsGoing, IsGoingOn, IsUpStage, made_in, paused_in, pauses_by}
use Rattle.port_manager.specs.Requests.{granted}
use Rattle.port_manager.specs.Runs.{Runs}
use Rattle.port_manager.specs.Stories.{Story, ask, drop, make, plug, pull, reconsider, acknowledge, hold, demand, hear}
use Rattle.port_manager.specs.Standing.{IsWatching}
use Rattle.port_manager.specs.Turns.{decided, going}
use Rattle.port_manager.proofs.LeftLaws.{halves_counted, left_of_half, left_of_halves, left_of_look, left_of_tasks, left_of_waking, look_counted, near_waking, some_waking, tasks_counted}
use Rattle.port_manager.proofs.PageProgress.{gained, left_of, near_patient, some_patient}
use Rattle.port_manager.proofs.TurnCases.{Follows, IsAnyTurn, later, pause_of, turn_all}
use Rattle.port_manager.proofs.TurnLaws.{IfOn, on_going}

-- ---- what is left until the module is up

abbrev pub after_reading : Bool → ℕ
after_reading true = 36
after_reading false = 52

-- provisioning has eight tasks, activation four, and a look two halves; a module that isn't ready is woken up, and read again
abbrev pub left : Job → ℕ
left (jobs.Reading job woken) = left_of paged_halves left_of_halves halves_counted job + after_reading woken
left (jobs.Waking job) = left_of_waking job + 49
left (jobs.Sleeping job) = left_of_waking job
left (jobs.Provisioning job goal) = left_of paged_tasks left_of_tasks tasks_counted job + 14
left (jobs.Activating job goal) = left_of paged_tasks left_of_tasks tasks_counted job + 4
left (jobs.Confirming job) = left_of paged_look left_of_look look_counted job
left (jobs.Watching job) = 0

pub begun_reading : (woken : Bool) → left (reading woken) ≡ 13 + after_reading woken
begun_reading woken = ap (λ (list : List Region). 3 * left_of_half 0 (slice_get list 0) - gained Unknown (page_by (slice_get list 0)) + after_reading woken) (asked_of_nothing everything)

abbrev pub IsNearer : ℕ → Turn → Type 0
IsNearer before (turns.On job note) = left job + 1 ≤ before
IsNearer before (turns.Paused job time) = left job ≤ before + 2
IsNearer before (turns.Failed fault) = Unit {0}
IsNearer before (turns.Left reason) = Unit {0}

going_nearer : (before : ℕ) (pause : Option ℕ) (job : Job) → (pause ≡ None → left job + 1 ≤ before) → left job ≤ before + 2 → IsNearer before (going pause job)
going_nearer before None job near far = near refl
going_nearer before (Some time) job near far = far

later_nearer : (job : Job) (op next : Op) (reply : Reply) → ¬ (IsWatching job) → asked job ≡ Some op → Answers op reply → asked (later job reply) ≡ Some next → IsNearer (left job) (going (pause_of job reply) (later job reply))
later_nearer (jobs.Reading job woken) op next reply not asks answers goes =
    let near = near_patient paged_halves left_of_halves halves_counted job op next reply asks answers goes in
    going_nearer (left (jobs.Reading job woken)) (pause_of (jobs.Reading job woken) reply) (later (jobs.Reading job woken) reply) (λ none. omega (arith, near.0 none)) (omega (arith, near.1))
later_nearer (jobs.Waking job) op next reply not asks answers goes =
    let near = near_waking job op next reply asks answers goes in
    going_nearer (left (jobs.Waking job)) (pause_of (jobs.Waking job) reply) (later (jobs.Waking job) reply) (λ none. omega (arith, near.0 none)) (omega (arith, near.1))
later_nearer (jobs.Sleeping job) op next reply not asks answers goes =
    let near = near_waking job op next reply asks answers goes in
    going_nearer (left (jobs.Sleeping job)) (pause_of (jobs.Sleeping job) reply) (later (jobs.Sleeping job) reply) near.0 near.1
later_nearer (jobs.Provisioning job goal) op next reply not asks answers goes =
    let near = near_patient paged_tasks left_of_tasks tasks_counted job op next reply asks answers goes in
    going_nearer (left (jobs.Provisioning job goal)) (pause_of (jobs.Provisioning job goal) reply) (later (jobs.Provisioning job goal) reply) (λ none. omega (arith, near.0 none)) (omega (arith, near.1))
later_nearer (jobs.Activating job goal) op next reply not asks answers goes =
    let near = near_patient paged_tasks left_of_tasks tasks_counted job op next reply asks answers goes in
    going_nearer (left (jobs.Activating job goal)) (pause_of (jobs.Activating job goal) reply) (later (jobs.Activating job goal) reply) (λ none. omega (arith, near.0 none)) (omega (arith, near.1))
later_nearer (jobs.Confirming job) op next reply not asks answers goes =
    let near = near_patient paged_look left_of_look look_counted job op next reply asks answers goes in
    going_nearer (left (jobs.Confirming job)) (pause_of (jobs.Confirming job) reply) (later (jobs.Confirming job) reply) near.0 near.1
later_nearer (jobs.Watching job) op next reply not asks answers goes = absurd (not tt)

-- what follows a job is less than the job had left
wakes_nearer : (before : ℕ) (patience : Patience) (woken requested : Bool) → 1 + after_reading woken ≤ before → IsNearer before (decided woken requested patience Wake)
wakes_nearer before patience true requested few = tt
wakes_nearer before patience false requested few = omega (arith, few)

most_reading : (woken : Bool) → 36 ≤ after_reading woken
most_reading true = omega arith
most_reading false = omega arith

decided_nearer : (before : ℕ) (woken requested : Bool) (patience : Patience) (decision : Decision) → 1 + after_reading woken ≤ before → IsNearer before (decided woken requested patience decision)
decided_nearer before woken requested patience (Leave reason) few = tt
decided_nearer before woken requested patience Wake few = wakes_nearer before patience woken requested few
decided_nearer before woken requested patience Sleep few = omega (arith, few, most_reading woken)
decided_nearer before woken requested patience (Hold goal) few = omega (arith, few)
decided_nearer before woken requested patience (Activate goal) few = let is : left (activating goal patience) ≡ 14 = refl in omega (arith, is, few, most_reading woken)
decided_nearer before woken requested patience (Provision goal) few = let is : left (provisioning goal patience) ≡ 36 = refl in omega (arith, is, few, most_reading woken)

follows_nearer : (wanted : Wanted) (job : Job) (op : Op) (reply : Reply) → ¬ (IsWatching job) → asked job ≡ Some op → Follows (IsNearer (left job)) wanted job reply
follows_nearer wanted (jobs.Reading job woken) op reply not asks =
    let some = some_patient paged_halves left_of_halves halves_counted job op asks in
    λ decision whole judged. decided_nearer (left (jobs.Reading job woken)) woken _ _ decision (omega (arith, some))
follows_nearer wanted (jobs.Waking job) op reply not asks = omega (arith, begun_reading true, some_waking job op asks)
follows_nearer wanted (jobs.Sleeping job) op reply not asks = tt
follows_nearer wanted (jobs.Provisioning job goal) op reply not asks =
    let is : left (activating goal (procedure_after job reply).conversation.patience) ≡ 14 = refl in omega (arith, is, some_patient paged_tasks left_of_tasks tasks_counted job op asks)
follows_nearer wanted (jobs.Activating job goal) op reply not asks =
    let is : left (confirming goal (procedure_after job reply).conversation.patience) ≡ 4 = refl in omega (arith, is, some_patient paged_tasks left_of_tasks tasks_counted job op asks)
follows_nearer wanted (jobs.Confirming job) op reply not asks = omega (arith, some_patient paged_look left_of_look look_counted job op asks)
follows_nearer wanted (jobs.Watching job) op reply not asks = absurd (not tt)

pub turn_nearer : (wanted : Wanted) (op : Op) (reply : Reply) (job : Job) (turn : Turn) → ¬ (IsWatching job) → asked job ≡ Some op → Answers op reply → IsAnyTurn wanted job reply turn → IsNearer (left job) turn
turn_nearer wanted op reply job turn not asks answers is =
    turn_all (IsNearer (left job)) (λ why. tt) wanted job reply turn (λ next e. later_nearer job op next reply not asks answers e) (follows_nearer wanted job op reply not asks) is

-- ---- a story in which nothing fails

pub turn_up : (wanted : Wanted) (reply : Reply) (job : Job) (turn : Turn) → IsWatching job → IsAnyTurn wanted job reply turn → IfOn turn IsWatching
turn_up wanted reply (jobs.Reading job woken) turn up is = absurd up
turn_up wanted reply (jobs.Waking job) turn up is = absurd up
turn_up wanted reply (jobs.Sleeping job) turn up is = absurd up
turn_up wanted reply (jobs.Provisioning job goal) turn up is = absurd up
turn_up wanted reply (jobs.Activating job goal) turn up is = absurd up
turn_up wanted reply (jobs.Confirming job) turn up is = absurd up
turn_up wanted reply (jobs.Watching job) turn up is =
    turn_all (λ turn. IfOn turn IsWatching) (λ why. tt) wanted (jobs.Watching job) reply turn (λ next e. on_going IsWatching (pause_of (jobs.Watching job) reply) (later (jobs.Watching job) reply) tt) tt is

abbrev pub left_in : Stage → ℕ
left_in stages.Absent = 0
left_in (stages.Left reason) = 0
left_in (stages.Working job) = left job

-- what one event brings
abbrev IsStep : Stage → ℕ → ℕ → Stage → Type 0
IsStep before made paused after = (made + left_in after ≤ left_in before + 3 * paused) × (¬ (IsUpStage before))

same_stage : (before after : Stage) → after ≡ before → ¬ (IsUpStage after) → IsStep before 0 0 after
same_stage before after e not = (omega (arith, ap left_in e), λ up. not (subst IsUpStage (sym e) up))

going_step : (port : Port) (wanted : Wanted) (job : Job) (op : Op) (reply : Reply) (now : ℕ) (turn : Turn) → asked job ≡ Some op → Answers op reply → IsAnyTurn wanted job reply turn → IsGoing (outcome_of port turn now)
    → ¬ (IsUpStage (turned port turn now).stage) → IsStep (stages.Working job) 1 (pauses_by (outcome_of port turn now)) (turned port turn now).stage
going_step port wanted job op reply now (turns.On next note) asks answers leads goes not =
    let stays : ¬ (IsWatching job) = λ up. not (turn_up wanted reply job (turns.On next note) up leads) in
    (omega (arith, turn_nearer wanted op reply job (turns.On next note) stays asks answers leads), stays)
going_step port wanted job op reply now (turns.Paused next time) asks answers leads goes not =
    let stays : ¬ (IsWatching job) = λ up. not (turn_up wanted reply job (turns.Paused next time) up leads) in
    (omega (arith, turn_nearer wanted op reply job (turns.Paused next time) stays asks answers leads), stays)
going_step port wanted job op reply now (turns.Failed fault) asks answers leads goes not = absurd goes
going_step port wanted job op reply now (turns.Left reason) asks answers leads goes not = absurd goes

-- what is noted of flags changes no outcome
pub same_outcome : (port : Port) (found : Option Op) (reply : Reply) (turn : Turn) (now : ℕ) → outcome_of (noting (answered port) found reply now) turn now ≡ outcome_of port turn now
same_outcome port found reply (turns.On job note) now = refl
same_outcome port found reply (turns.Paused job time) now = refl
same_outcome port found reply (turns.Failed fault) now = refl
same_outcome port found reply (turns.Left reason) now = refl

turned_step : (stage : Stage) (port : Port) (op : Op) (reply : Reply) (wanted : Wanted) (now : ℕ) (result : Outcome) (after : Port) → asked_in stage ≡ Some op → Answers op reply → IsGoing result
    → IsTurnedIn stage port reply wanted now result after → ¬ (IsUpStage after.stage) → IsStep stage 1 (pauses_by result) after.stage
turned_step stages.Absent port op reply wanted now result after asks answers goes is not = absurd (let same = asks in cc)
turned_step (stages.Left reason) port op reply wanted now result after asks answers goes is not = absurd (let same = asks in cc)
turned_step (stages.Working job) port op reply wanted now result after asks answers goes (turn, leads, gives, is) not =
    let noted = noting (answered port) (asked job) reply now in
    let outcome : result ≡ outcome_of noted turn now = gives ∙ sym (same_outcome port (asked job) reply turn now) in
    subst (λ (after : Port). ¬ (IsUpStage after.stage) → IsStep (stages.Working job) 1 (pauses_by result) after.stage) (sym is)
    (λ not. subst (λ (result : Outcome). IsStep (stages.Working job) 1 (pauses_by result) (turned noted turn now).stage) (sym outcome)
    (going_step noted (granted port.request wanted) job op reply now turn asks answers (port.apply_refused, leads) (subst IsGoing outcome goes) not)) not

pub dropped_step : (stage : Stage) (port : Port) (reply : Reply) (now : ℕ) (result : Outcome) (after : Port) → IsGoing result → IsRestartedIn stage port reply now result after → ⊥
dropped_step stages.Absent port reply now result after goes (gives, is) = subst IsGoing gives goes
dropped_step (stages.Left reason) port reply now result after goes (gives, is) = subst IsGoing gives goes
dropped_step (stages.Working job) port reply now result after goes (gives, is) = subst IsGoing gives goes

taken_step : (o : Outstanding) (port : Port) (op : Op) (reply : Reply) (wanted : Wanted) (now : ℕ) (result : Outcome) (after : Port) → awaited port ≡ Some op → IsAwaitedBy o port reply → IsGoing result
    → IsTakenBy o port reply wanted now result after → ¬ (IsUpStage after.stage) → IsStep port.stage 1 (pauses_by result) after.stage
taken_step outstanding.Nothing port op reply wanted now result after asks answers goes (gives, is) not = absurd (subst IsGoing gives goes)
taken_step outstanding.Awaited port op reply wanted now result after asks answers goes is not =
    turned_step port.stage port op reply wanted now result after asks (subst (λ (found : Option Op). IsReplyTo found reply) asks answers) goes is not
taken_step outstanding.Stale port op reply wanted now result after asks answers goes is not = absurd (dropped_step port.stage port reply now result after goes is)
taken_step outstanding.Forsaken port op reply wanted now result after asks answers goes (gives, is) not = absurd (subst IsGoing gives goes)

pub runs_nearer : (port after : Port) (story : Story) → Runs port story after → IsGoingOn story → ¬ (IsUpStage after.stage) → made_in story + left_in after.stage ≤ left_in port.stage + 3 * paused_in story
runs_nearer port after [] is goes not = omega (arith, ap (λ (port : Port). left_in port.stage) is)
runs_nearer port after (plug now ∷ before) ran goes not = absurd goes
runs_nearer port after (pull ∷ before) ran goes not = absurd goes
runs_nearer port after (reconsider ∷ before) ran goes not = absurd goes
runs_nearer port after (hold held ∷ before) ran goes not = absurd goes
runs_nearer port after (demand request ∷ before) ran goes not = absurd goes
runs_nearer port after (acknowledge past ∷ before) (between, ran, is) goes not =
    let step = same_stage between.stage after.stage (ap (λ (port : Port). port.stage) is) not in
    omega (arith, step.0, runs_nearer port between before ran goes step.1)
runs_nearer port after (hear alive began ∷ before) (between, ran, is) goes not =
    let step = same_stage between.stage after.stage (ap (λ (port : Port). port.stage) is) not in
    omega (arith, step.0, runs_nearer port between before ran goes step.1)
runs_nearer port after (ask op moment ∷ before) (between, ran, (asks, is)) goes not =
    let step = same_stage between.stage after.stage (ap (λ (port : Port). port.stage) is) not in
    omega (arith, step.0, runs_nearer port between before ran goes step.1)
runs_nearer port after (drop ∷ before) (between, ran, (forsaken, is)) goes not =
    let step = same_stage between.stage after.stage (ap (λ (port : Port). port.stage) is) not in
    omega (arith, step.0, runs_nearer port between before ran goes step.1)
runs_nearer port after (make op reply wanted now result ∷ before) (between, ran, (waited, asks, answers, is)) goes not =
    let step = taken_step between.outstanding between op reply wanted now result after asks answers goes.0 is not in
    omega (arith, step.0, runs_nearer port between before ran goes.1 step.1)

pub is_up_or_not : (stage : Stage) → IsUpStage stage ⊎ ¬ (IsUpStage stage)
is_up_or_not stages.Absent = inr (λ up. up)
is_up_or_not (stages.Left reason) = inr (λ up. up)
is_up_or_not (stages.Working (jobs.Reading job woken)) = inr (λ up. up)
is_up_or_not (stages.Working (jobs.Waking job)) = inr (λ up. up)
is_up_or_not (stages.Working (jobs.Sleeping job)) = inr (λ up. up)
is_up_or_not (stages.Working (jobs.Provisioning job goal)) = inr (λ up. up)
is_up_or_not (stages.Working (jobs.Activating job goal)) = inr (λ up. up)
is_up_or_not (stages.Working (jobs.Confirming job)) = inr (λ up. up)
is_up_or_not (stages.Working (jobs.Watching job)) = inl tt

pub plugged_left : (port : Port) (now : ℕ) → left_in (plugged now port).stage ≡ 65
plugged_left port now = begun_reading false

begun_left : (woken : Bool) → left (reading woken) ≤ 65
begun_left true = omega (arith, begun_reading true)
begun_left false = omega (arith, begun_reading false)

pub comes_up_anew : (port after : Port) (woken : Bool) (story : Story) → port.stage ≡ stages.Working (reading woken) → Runs port story after → IsGoingOn story → 65 + 3 * paused_in story < made_in story → IsUpStage after.stage
comes_up_anew port after woken story begins ran goes many =
    elim (is_up_or_not after.stage) as (λ _. IsUpStage after.stage) [
      | inl up ↦ up
      | inr not ↦ absurd (omega (arith, runs_nearer port after story ran goes not, ap left_in begins, begun_left woken, many))
    ]

pub comes_up : (port after : Port) (now : ℕ) (story : Story) → Runs (plugged now port) story after → IsGoingOn story → 65 + 3 * paused_in story < made_in story → IsUpStage after.stage
comes_up port after now story ran goes many = comes_up_anew (plugged now port) after false story refl ran goes many
