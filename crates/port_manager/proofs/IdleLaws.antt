-- A port whose module is up stores nothing until something changes.
use Rattle.std.proofs.Common.{◌≡◌, ℕ, Bool, true, false, List, [], ◌∷◌, Option, Some, None, refl, sym, ap, subst, ◌∙◌}
use Rattle.std.specs.Prelude.{◌==◌, MatchOption, if◌then◌else◌}
use Rattle.applications.specs.declared.fault.AdvertFault.{AdvertFault}
use Rattle.bus_model.specs.declared.operation.Reply.{Reply}
use Rattle.conversations.specs.declared.next.Next.{Next}
use Rattle.conversations.specs.declared.on_page.OnPage.{OnPage}
use Rattle.conversations.specs.declared.pausing.Patience.{Patience}
use Rattle.conversations.specs.declared.pausing.Timed.{Timed}
use Rattle.conversations.specs.declared.within.Spent.{Spent}
use Rattle.control_sets.specs.Durations.{patience_for}
use Rattle.field_tables.specs.declared.field.Field.TheVariants as fields
use Rattle.field_tables.specs.declared.table.cmis.CmisField.TheVariants as cmis
use Rattle.field_tables.specs.Readings.{number}
use Rattle.paged_memory.specs.Images.{Memory}
use Rattle.module_reading.specs.declared.halves.Halves.{Halves}
use Rattle.port_manager.specs.declared.deciding.Decision.{Decision}
use Rattle.port_manager.specs.declared.deciding.Decision.TheVariants.{Leave, Hold, Activate, Provision}
use Rattle.port_manager.specs.declared.deciding.Goal.{Goal}
use Rattle.port_manager.specs.declared.deciding.LeftBecause.TheVariants.{Advert, NoPlan}
use Rattle.port_manager.specs.declared.deciding.Wanted.{Wanted}
use Rattle.port_manager.specs.declared.job.Job.{Job}
use Rattle.port_manager.specs.declared.job.Job.TheVariants as jobs
use Rattle.port_manager.specs.declared.port.Outcome.{Outcome}
use Rattle.port_manager.specs.declared.port.Outstanding.{Outstanding}
use Rattle.port_manager.specs.declared.port.Outstanding.TheVariants as outstanding
use Rattle.port_manager.specs.declared.port.Port.{Port}
use Rattle.port_manager.specs.declared.port.Stage.{Stage}
use Rattle.port_manager.specs.declared.port.Stage.TheVariants as stages
use Rattle.port_manager.specs.Turns.{Turn}
use Rattle.port_manager.specs.Turns as turns
use Rattle.port_manager.specs.Decisions.{IsDecision, IsDecisionFor, IsDecisionIn, IsJudged, has_no_plan, if_permitted}
use Rattle.port_manager.specs.Goals.{are_up, has_all, may_activate, may_provision}
use Rattle.port_manager.specs.Idle.{IsCalm, IsCalmOutcome, IsUp, LeavesWhatIsUp}
use Rattle.port_manager.specs.Jobs.{asked, reading_after, reading_wants}
use Rattle.port_manager.specs.Patients.{Patient}
use Rattle.port_manager.specs.Ports.{IfWorking, IsTakenBy, IsTurnedIn, answered, noting, outcome_of, turned}
use Rattle.port_manager.specs.Requests.{granted}
use Rattle.port_manager.specs.Runs.{Becomes, Runs}
use Rattle.port_manager.specs.Stories.{Event, Story, ask, drop, make, plug, pull, reconsider, acknowledge, hold, demand, hear}
use Rattle.port_manager.specs.Readings.{IsWhole}
use Rattle.port_manager.specs.Standing.{IsWatching}
use Rattle.port_manager.specs.Turns.{GoesTo, IsRead, decided, going}
use Rattle.port_manager.proofs.RefusedApplyLaws.{reading_goes_on}
use Rattle.port_manager.proofs.StoreLaws.{stage_only}
use Rattle.port_manager.proofs.StoryLaws.{asks_in, asks_when}
use Rattle.port_manager.proofs.TurnCases.{IsAnyTurn, later, pause_of, turn_all}

-- ---- what is up is held

abbrev IsHolding : Decision → Type 0
IsHolding decision = (goal : Goal) × (decision ≡ Hold goal)

held_by : (goal : Goal) (activate provision : Decision) (none has up : Bool) → none ≡ false → has ≡ true → up ≡ true → (if none then Leave NoPlan else if has then (if up then Hold goal else activate) else provision) ≡ Hold goal
held_by goal activate provision none has up e f g = ap (λ (none : Bool). if none then Leave NoPlan else if has then (if up then Hold goal else activate) else provision) e
    ∙ ap (λ (has : Bool). if has then (if up then Hold goal else activate) else provision) f
    ∙ ap (λ (up : Bool). if up then Hold goal else activate) g

judged_holds : (wanted : Wanted) (image : Memory) (decision : Decision) (up : IsUp wanted image) → IsJudged wanted image (Some up.page) decision → IsHolding decision
judged_holds wanted image decision up (goal, has, is) =
    let shows = up.each goal has in
    (goal, is ∙ held_by goal (if_permitted (may_activate up.page goal.lanes wanted.may_take_down) (Activate goal)) (if_permitted (may_provision up.page goal.outside wanted.may_take_down) (Provision goal)) (has_no_plan wanted goal) (has_all up.page goal.control) (are_up up.page goal.control goal.lanes) shows.some shows.has shows.up)

in_holds : (wanted : Wanted) (image : Memory) (decision : Decision) (up : IsUp wanted image) → IsDecisionIn wanted image (number image (fields.Cmis cmis.ModuleState) == 3) decision → IsHolding decision
in_holds wanted image decision up is =
    judged_holds wanted image decision up
    (subst (λ (found : Option (List ℕ)). IsJudged wanted image found decision) up.there
    (subst (λ (ready : Bool). IsDecisionIn wanted image ready decision) (ap (λ (code : ℕ). code == 3) up.ready) is))

holds : (wanted : Wanted) (image : Memory) (decision : Decision) → IsUp wanted image → IsDecision wanted image decision → IsHolding decision
holds wanted image decision up is =
    in_holds wanted image decision up
    (subst (λ (fault : Option AdvertFault). MatchOption fault (IsDecisionIn wanted image (number image (fields.Cmis cmis.ModuleState) == 3) decision) (λ fault. decision ≡ Leave (Advert fault))) up.advertised
    (subst (λ (asleep : Bool). IsDecisionFor asleep wanted image decision) up.awake is))

abbrev Watches : Turn → Type 0
Watches (turns.On job note) = IsWatching job
Watches (turns.Paused job time) = IsWatching job
Watches (turns.Failed fault) = ⊥
Watches (turns.Left reason) = ⊥

held_watches : (woken requested : Bool) (patience : Patience) (decision : Decision) (turn : Turn) → IsHolding decision → turn ≡ decided woken requested patience decision → Watches turn
held_watches woken requested patience decision turn (goal, is) leads = subst Watches (sym (leads ∙ ap (decided woken requested patience) is)) tt

ended_watches : (wanted : Wanted) (woken : Bool) (after : Patient (OnPage Halves)) (next : Next (Spent (Timed (Unit {0})))) (pause : Option ℕ) (turn : Turn) → IsWhole next
    → IsUp wanted after.conversation.conversation.conversation.image
    → GoesTo next pause (jobs.Reading after woken) (λ end turn. IsRead wanted woken after.conversation.conversation.conversation.image end turn) turn → Watches turn
ended_watches wanted woken after next pause turn (steps, ends) up is =
    let (decision, judged, leads) = subst (λ (next : Next (Spent (Timed (Unit {0})))). GoesTo next pause (jobs.Reading after woken) (λ end turn. IsRead wanted woken after.conversation.conversation.conversation.image end turn) turn) ends is in
    held_watches woken _ (patience_for after.conversation.conversation.conversation.image) decision turn (holds wanted after.conversation.conversation.conversation.image decision up judged) leads

reading_watches : (wanted : Wanted) (woken : Bool) (job : Patient (OnPage Halves)) (reply : Reply) (turn : Turn) → IsWhole (reading_wants (reading_after job reply)) → IsUp wanted (reading_after job reply).conversation.conversation.conversation.image
    → IsAnyTurn wanted (jobs.Reading job woken) reply turn → Watches turn
reading_watches wanted woken job reply turn whole up is =
    ended_watches wanted woken (reading_after job reply) (reading_wants (reading_after job reply)) (pause_of (jobs.Reading job woken) reply) turn whole up (reading_goes_on wanted woken job reply turn is)

-- ---- a port that watches goes on watching

abbrev IsFresh : Outstanding → Type 0
IsFresh outstanding.Nothing = Unit {0}
IsFresh outstanding.Awaited = Unit {0}
IsFresh outstanding.Stale = ⊥
IsFresh outstanding.Forsaken = Unit {0}

abbrev IsSettled : Port → Type 0
IsSettled port = IfWorking port.stage IsWatching × IsFresh port.outstanding

turned_watches : (port : Port) (turn : Turn) (now : ℕ) → Watches turn → IfWorking (turned port turn now).stage IsWatching
turned_watches port (turns.On job note) now watches = watches
turned_watches port (turns.Paused job time) now watches = watches
turned_watches port (turns.Failed fault) now watches = absurd watches
turned_watches port (turns.Left reason) now watches = absurd watches

turned_fresh : (port : Port) (turn : Turn) (now : ℕ) → port.outstanding ≡ outstanding.Nothing → IsFresh (turned port turn now).outstanding
turned_fresh port (turns.On job note) now e = subst IsFresh (sym e) tt
turned_fresh port (turns.Paused job time) now e = subst IsFresh (sym e) tt
turned_fresh port (turns.Failed fault) now e = subst IsFresh (sym e) tt
turned_fresh port (turns.Left reason) now e = subst IsFresh (sym e) tt

settled_by : (port : Port) (turn : Turn) (now : ℕ) → port.outstanding ≡ outstanding.Nothing → Watches turn → IsSettled (turned port turn now)
settled_by port turn now e watches = (turned_watches port turn now watches, turned_fresh port turn now e)

-- unless it fails
abbrev CalmWatches : Port → ℕ → Turn → Type 0
CalmWatches port now turn = IsCalmOutcome (outcome_of port turn now) → Watches turn

going_watches : (port : Port) (now : ℕ) (pause : Option ℕ) (job : Job) → IsWatching job → CalmWatches port now (going pause job)
going_watches port now None job watches = λ calm. watches
going_watches port now (Some time) job watches = λ calm. watches

job_watches : (port : Port) (wanted : Wanted) (job : Job) (reply : Reply) (turn : Turn) (now : ℕ) → IsWatching job → IsAnyTurn wanted job reply turn → CalmWatches port now turn
job_watches port wanted (jobs.Reading job woken) reply turn now watching is = absurd watching
job_watches port wanted (jobs.Waking job) reply turn now watching is = absurd watching
job_watches port wanted (jobs.Sleeping job) reply turn now watching is = absurd watching
job_watches port wanted (jobs.Provisioning job goal) reply turn now watching is = absurd watching
job_watches port wanted (jobs.Activating job goal) reply turn now watching is = absurd watching
job_watches port wanted (jobs.Confirming job) reply turn now watching is = absurd watching
job_watches port wanted (jobs.Watching job) reply turn now watching is =
    turn_all (CalmWatches port now) (λ why. λ calm. calm) wanted (jobs.Watching job) reply turn
    (λ next e. going_watches port now (pause_of (jobs.Watching job) reply) (later (jobs.Watching job) reply) tt) (λ calm. tt) is

turned_settles : (stage : Stage) (port : Port) (reply : Reply) (wanted : Wanted) (now : ℕ) (result : Outcome) (after : Port) → port.stage ≡ stage → IfWorking stage IsWatching → IsCalmOutcome result
    → IsTurnedIn stage port reply wanted now result after → IsSettled after
turned_settles stages.Absent port reply wanted now result after e watching calm (gives, is) =
    subst IsSettled (sym is) (subst (λ (stage : Stage). IfWorking stage IsWatching) (sym e) tt, tt)
turned_settles (stages.Left reason) port reply wanted now result after e watching calm (gives, is) =
    subst IsSettled (sym is) (subst (λ (stage : Stage). IfWorking stage IsWatching) (sym e) tt, tt)
turned_settles (stages.Working job) port reply wanted now result after e watching calm (turn, leads, gives, is) =
    subst IsSettled (sym is)
    (settled_by (noting (answered port) (asked job) reply now) turn now refl (job_watches port (granted port.request wanted) job reply turn now watching (port.apply_refused, leads) (subst IsCalmOutcome gives calm)))

taken_settles : (o : Outstanding) (port : Port) (reply : Reply) (wanted : Wanted) (now : ℕ) (result : Outcome) (after : Port) → IfWorking port.stage IsWatching → IsFresh o → IsCalmOutcome result
    → IsTakenBy o port reply wanted now result after → IsSettled after
taken_settles outstanding.Nothing port reply wanted now result after watching fresh calm is = subst IsSettled (sym is.1) (watching, tt)
taken_settles outstanding.Awaited port reply wanted now result after watching fresh calm is = turned_settles port.stage port reply wanted now result after refl watching calm is
taken_settles outstanding.Stale port reply wanted now result after watching fresh calm is = absurd fresh
taken_settles outstanding.Forsaken port reply wanted now result after watching fresh calm is = subst IsSettled (sym is.1) (watching, tt)

becomes_settled : (port after : Port) (event : Event) (before : Story) → IsSettled port → IsCalm (event ∷ before) → Becomes port event after → IsSettled after
becomes_settled port after (plug now) before settled calm is = absurd calm
becomes_settled port after pull before settled calm is = absurd calm
becomes_settled port after reconsider before settled calm is = absurd calm
becomes_settled port after (hold held) before settled calm is = absurd calm
becomes_settled port after (demand request) before settled calm is = absurd calm
becomes_settled port after (acknowledge past) before settled calm is = subst IsSettled (sym is) settled
becomes_settled port after (hear alive began) before settled calm is = subst IsSettled (sym is) settled
becomes_settled port after (ask op moment) before settled calm (asks, is) = subst IsSettled (sym is) (settled.0, tt)
becomes_settled port after (make op reply wanted now result) before settled calm (waited, asks, answers, is) =
    taken_settles port.outstanding port reply wanted now result after settled.0 settled.1 calm.0 is
becomes_settled port after drop before settled calm (forsaken, is) = subst IsSettled (sym is) (settled.0, tt)

calm_before : (event : Event) (before : Story) → IsCalm (event ∷ before) → IsCalm before
calm_before (plug now) before calm = absurd calm
calm_before pull before calm = absurd calm
calm_before reconsider before calm = absurd calm
calm_before (hold held) before calm = absurd calm
calm_before (demand request) before calm = absurd calm
calm_before (acknowledge past) before calm = calm
calm_before (hear alive began) before calm = calm
calm_before (ask op moment) before calm = calm
calm_before (make op reply wanted now result) before calm = calm.1
calm_before drop before calm = calm

runs_settled : (port after : Port) (more : Story) → IsSettled port → IsCalm more → Runs port more after → IsSettled after
runs_settled port after [] settled calm is = subst IsSettled (sym is) settled
runs_settled port after (event ∷ before) settled calm (between, ran, is) =
    becomes_settled between after event before (runs_settled port between before settled (calm_before event before calm) ran) calm is

reading_settles : (port between : Port) (job : Patient (OnPage Halves)) (woken : Bool) (reply : Reply) (wanted : Wanted) (now : ℕ) (result : Outcome) → IsWhole (reading_wants (reading_after job reply))
    → IsUp (granted port.request wanted) (reading_after job reply).conversation.conversation.conversation.image → IsTurnedIn (stages.Working (jobs.Reading job woken)) port reply wanted now result between → IsSettled between
reading_settles port between job woken reply wanted now result ends up (turn, leads, gives, is) =
    subst IsSettled (sym is)
    (settled_by (noting (answered port) (asked (jobs.Reading job woken)) reply now) turn now refl (reading_watches (granted port.request wanted) woken job reply turn ends up (port.apply_refused, leads)))

pub leaves_what_is_up : LeavesWhatIsUp
leaves_what_is_up port between after job woken reply wanted now moment result more op waits reads ends up is ran calm asks =
    let turns_by = subst (λ (o : Outstanding). IsTakenBy o port reply wanted now result between) waits is in
    let settles = reading_settles port between job woken reply wanted now result ends up (subst (λ (stage : Stage). IsTurnedIn stage port reply wanted now result between) reads turns_by) in
    let settled = runs_settled between after more settles calm ran in
    let (nothing, does) = asks_when after.outstanding after moment op asks in
    stage_only after.stage op settled.0 (asks_in after.stage after moment op does)
