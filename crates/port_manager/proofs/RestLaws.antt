-- A module that is to be in low power is read and put to sleep, and nothing else; what is asked is done within so many operations.
use Rattle.std.proofs.Common.{◌≡◌, ◌<◌, ◌+◌, ◌*◌, inl, inr, ℕ, Bool, true, false, List, [], ◌∷◌, Option, Some, None, refl, sym, ap, subst, ◌∙◌, arith}
use Rattle.std.specs.Prelude.{◌||◌, ◌==◌, MatchOption, if◌then◌else◌}
use Rattle.std.specs.FinSet as set
use Rattle.applications.specs.declared.fault.AdvertFault.{AdvertFault}
use Rattle.applications.specs.Refusals.{advert_fault_under}
use Rattle.bus_model.specs.declared.operation.Reply.{Reply}
use Rattle.conversations.specs.declared.pausing.Patience.{Patience}
use Rattle.field_tables.specs.declared.field.Field.TheVariants as fields
use Rattle.field_tables.specs.declared.table.cmis.CmisField.TheVariants as cmis
use Rattle.field_tables.specs.LaneSets.{Lanes}
use Rattle.field_tables.specs.Readings.{number}
use Rattle.paged_memory.specs.Images.{Memory}
use Rattle.port_manager.specs.declared.deciding.Decision.{Decision}
use Rattle.port_manager.specs.declared.deciding.Decision.TheVariants.{Leave, Wake, Sleep, Hold, Activate, Provision}
use Rattle.port_manager.specs.declared.deciding.LeftBecause.TheVariants as left
use Rattle.port_manager.specs.declared.deciding.Wanted.{Wanted}
use Rattle.port_manager.specs.declared.job.Job.{Job}
use Rattle.port_manager.specs.declared.job.Job.TheVariants as jobs
use Rattle.port_manager.specs.declared.port.Outcome.{Outcome}
use Rattle.port_manager.specs.declared.port.Outstanding.{Outstanding}
use Rattle.port_manager.specs.declared.port.Outstanding.TheVariants as outstanding
use Rattle.port_manager.specs.declared.port.Port.{Port}
use Rattle.port_manager.specs.declared.port.Stage.{Stage}
use Rattle.port_manager.specs.declared.port.Stage.TheVariants as stages
use Rattle.port_manager.specs.declared.request.Request.{Request}
use Rattle.port_manager.specs.declared.request.Request.TheVariants as requests
use Rattle.port_manager.specs.declared.turn.Note.{Note}
use Rattle.port_manager.specs.declared.turn.Note.TheVariants as notes
use Rattle.port_manager.specs.Turns.{Turn}
use Rattle.port_manager.specs.Turns as turns
use Rattle.port_manager.specs.Requested.{IsRequestDone}
use Rattle.port_manager.specs.Decisions.{IsDecision, IsDecisionFor, if_permitted, page_of_lanes, sleep_in, sleep_within}
use Rattle.port_manager.specs.Goals.{conventions_of, may_activate}
use Rattle.port_manager.specs.Jobs.{asked}
use Rattle.port_manager.specs.Ports.{IfWorking, IsTakenBy, IsTurnedIn, answered, asked_for, begun_in, is_there, noting, reconsidered_by, request_after, turned}
use Rattle.port_manager.specs.Progress.{IsGoing, IsGoingOn, IsUpStage, made_in, paused_in}
use Rattle.port_manager.specs.Requests.{ended, granted, is_sleep}
use Rattle.port_manager.specs.Runs.{Runs}
use Rattle.port_manager.specs.Stories.{Story, acknowledge, ask, demand, drop, hear, hold, make, plug, pull, reconsider}
use Rattle.port_manager.specs.Turns.{decided}
use Rattle.port_manager.proofs.TurnCases.{Follows, IsAnyTurn, later, pause_of, turn_all}
use Rattle.port_manager.proofs.TurnLaws.{IfOn, on_going}
use Rattle.port_manager.proofs.TurnProgress.{begun_reading, dropped_step, is_up_or_not, left_in, runs_nearer}

-- ---- what is decided

abbrev Rests : Decision → Type 0
Rests (Leave reason) = Unit {0}
Rests Wake = ⊥
Rests Sleep = Unit {0}
Rests (Hold goal) = ⊥
Rests (Activate goal) = ⊥
Rests (Provision goal) = ⊥

permitted_rests : (may : Bool) → Rests (if_permitted may Sleep)
permitted_rests true = tt
permitted_rests false = tt

page_rests : (may : Lanes) (found : Option (List ℕ)) → Rests (sleep_in may found)
page_rests may None = tt
page_rests may (Some page) = permitted_rests (may_activate page set.empty may)

within_rests : (low : Bool) (decision : Decision) → Rests decision → Rests (if low then Leave left.Asleep else decision)
within_rests true decision rests = tt
within_rests false decision rests = rests

asleep_rests : (wanted : Wanted) (image : Memory) (decision : Decision) (fault : Option AdvertFault) → MatchOption fault (decision ≡ sleep_within wanted.may_take_down image) (λ fault. decision ≡ Leave (left.Advert fault)) → Rests decision
asleep_rests wanted image decision None is =
    subst Rests (sym is) (within_rests (number image (fields.Cmis cmis.ModuleState) == 1) (sleep_in wanted.may_take_down (page_of_lanes image)) (page_rests wanted.may_take_down (page_of_lanes image)))
asleep_rests wanted image decision (Some fault) is = subst Rests (sym is) tt

decision_rests : (wanted : Wanted) (image : Memory) (decision : Decision) → wanted.asleep ≡ true → IsDecision wanted image decision → Rests decision
decision_rests wanted image decision asleep is =
    asleep_rests wanted image decision (advert_fault_under (conventions_of wanted) image) (subst (λ (asleep : Bool). IsDecisionFor asleep wanted image decision) asleep is)

-- ---- what works

abbrev IsResting : Job → Type 0
IsResting (jobs.Reading job woken) = Unit {0}
IsResting (jobs.Waking job) = ⊥
IsResting (jobs.Sleeping job) = Unit {0}
IsResting (jobs.Provisioning job goal) = ⊥
IsResting (jobs.Activating job goal) = ⊥
IsResting (jobs.Confirming job) = ⊥
IsResting (jobs.Watching job) = ⊥

decided_rests : (woken requested : Bool) (patience : Patience) (decision : Decision) → Rests decision → IfOn (decided woken requested patience decision) IsResting
decided_rests woken requested patience (Leave reason) rests = tt
decided_rests woken requested patience Wake rests = absurd rests
decided_rests woken requested patience Sleep rests = tt
decided_rests woken requested patience (Hold goal) rests = absurd rests
decided_rests woken requested patience (Activate goal) rests = absurd rests
decided_rests woken requested patience (Provision goal) rests = absurd rests

later_rests : (job : Job) (reply : Reply) → IsResting job → IsResting (later job reply)
later_rests (jobs.Reading job woken) reply rests = tt
later_rests (jobs.Waking job) reply rests = absurd rests
later_rests (jobs.Sleeping job) reply rests = tt
later_rests (jobs.Provisioning job goal) reply rests = absurd rests
later_rests (jobs.Activating job goal) reply rests = absurd rests
later_rests (jobs.Confirming job) reply rests = absurd rests
later_rests (jobs.Watching job) reply rests = absurd rests

follows_rests : (wanted : Wanted) (job : Job) (reply : Reply) → wanted.asleep ≡ true → IsResting job → Follows (λ turn. IfOn turn IsResting) wanted job reply
follows_rests wanted (jobs.Reading job woken) reply asleep rests = λ decision whole judged. decided_rests woken _ _ decision (decision_rests wanted _ decision asleep judged)
follows_rests wanted (jobs.Waking job) reply asleep rests = absurd rests
follows_rests wanted (jobs.Sleeping job) reply asleep rests = tt
follows_rests wanted (jobs.Provisioning job goal) reply asleep rests = absurd rests
follows_rests wanted (jobs.Activating job goal) reply asleep rests = absurd rests
follows_rests wanted (jobs.Confirming job) reply asleep rests = absurd rests
follows_rests wanted (jobs.Watching job) reply asleep rests = absurd rests

turn_rests : (wanted : Wanted) (reply : Reply) (job : Job) (turn : Turn) → wanted.asleep ≡ true → IsResting job → IsAnyTurn wanted job reply turn → IfOn turn IsResting
turn_rests wanted reply job turn asleep rests is =
    turn_all (λ turn. IfOn turn IsResting) (λ why. tt) wanted job reply turn
    (λ next e. on_going IsResting (pause_of job reply) (later job reply) (later_rests job reply rests)) (follows_rests wanted job reply asleep rests) is

-- ---- a port that was asked to put its module to sleep

pub record Sleeps (port : Port) : Type 0 where
  pub sleep : is_sleep port.request ≡ true
  pub rests : IfWorking port.stage IsResting

or_true : (one other : Bool) → other ≡ true → (one || other) ≡ true
or_true true other e = refl
or_true false other e = e

ended_sleep : (request : Request) → is_sleep (ended request) ≡ is_sleep request
ended_sleep requests.Wake = refl
ended_sleep (requests.Sleep lanes) = refl
ended_sleep (requests.Provision lanes) = refl
ended_sleep (requests.Deactivate lanes) = refl

noted_sleep : (request : Request) (note : Note) → is_sleep (request_after request note) ≡ is_sleep request
noted_sleep request notes.CameUp = ended_sleep request
noted_sleep request notes.Held = refl
noted_sleep request notes.Quiet = refl
noted_sleep request notes.Identified = refl
noted_sleep request notes.Woken = refl
noted_sleep request notes.Provisioned = refl

turned_sleeps : (port : Port) (turn : Turn) (now : ℕ) → is_sleep port.request ≡ true → IfOn turn IsResting → Sleeps (turned port turn now)
turned_sleeps port (turns.On job note) now sleep rests = record { sleep = noted_sleep port.request note ∙ sleep; rests = rests }
turned_sleeps port (turns.Paused job time) now sleep rests = record { sleep = sleep; rests = rests }
turned_sleeps port (turns.Failed why) now sleep rests = record { sleep = sleep; rests = tt }
turned_sleeps port (turns.Left reason) now sleep rests = record { sleep = ended_sleep port.request ∙ sleep; rests = tt }

turned_in_sleeps : (stage : Stage) (port : Port) (reply : Reply) (wanted : Wanted) (now : ℕ) (result : Outcome) (after : Port) → Sleeps port → IfWorking stage IsResting → IsGoing result
    → IsTurnedIn stage port reply wanted now result after → Sleeps after
turned_in_sleeps stages.Absent port reply wanted now result after sleeps rests goes (gives, is) = absurd (subst IsGoing gives goes)
turned_in_sleeps (stages.Left reason) port reply wanted now result after sleeps rests goes (gives, is) = absurd (subst IsGoing gives goes)
turned_in_sleeps (stages.Working job) port reply wanted now result after sleeps rests goes (turn, leads, gives, is) =
    subst Sleeps (sym is)
    (turned_sleeps (noting (answered port) (asked job) reply now) turn now sleeps.sleep
    (turn_rests (granted port.request wanted) reply job turn (or_true wanted.asleep (is_sleep port.request) sleeps.sleep) rests (port.apply_refused, leads)))

taken_sleeps : (o : Outstanding) (port : Port) (reply : Reply) (wanted : Wanted) (now : ℕ) (result : Outcome) (after : Port) → Sleeps port → IsGoing result → IsTakenBy o port reply wanted now result after → Sleeps after
taken_sleeps outstanding.Nothing port reply wanted now result after sleeps goes (gives, is) = absurd (subst IsGoing gives goes)
taken_sleeps outstanding.Awaited port reply wanted now result after sleeps goes is = turned_in_sleeps port.stage port reply wanted now result after sleeps sleeps.rests goes is
taken_sleeps outstanding.Stale port reply wanted now result after sleeps goes is = absurd (dropped_step port.stage port reply now result after goes is)
taken_sleeps outstanding.Forsaken port reply wanted now result after sleeps goes (gives, is) = absurd (subst IsGoing gives goes)

same_sleeps : (port after : Port) → after.request ≡ port.request → after.stage ≡ port.stage → Sleeps port → Sleeps after
same_sleeps port after request stage sleeps =
    record { sleep = ap is_sleep request ∙ sleeps.sleep; rests = subst (λ (stage : Stage). IfWorking stage IsResting) (sym stage) sleeps.rests }

abbrev request_of : Port → Request
request_of port = port.request

abbrev stage_of : Port → Stage
stage_of port = port.stage

runs_sleeps : (port after : Port) (story : Story) → Sleeps port → Runs port story after → IsGoingOn story → Sleeps after
runs_sleeps port after [] sleeps is goes = subst Sleeps (sym is) sleeps
runs_sleeps port after (plug now ∷ before) sleeps ran goes = absurd goes
runs_sleeps port after (pull ∷ before) sleeps ran goes = absurd goes
runs_sleeps port after (reconsider ∷ before) sleeps ran goes = absurd goes
runs_sleeps port after (hold held ∷ before) sleeps ran goes = absurd goes
runs_sleeps port after (demand request ∷ before) sleeps ran goes = absurd goes
runs_sleeps port after (acknowledge past ∷ before) sleeps (between, ran, is) goes =
    same_sleeps between after (ap request_of is) (ap stage_of is) (runs_sleeps port between before sleeps ran goes)
runs_sleeps port after (hear alive began ∷ before) sleeps (between, ran, is) goes =
    same_sleeps between after (ap request_of is) (ap stage_of is) (runs_sleeps port between before sleeps ran goes)
runs_sleeps port after (ask op moment ∷ before) sleeps (between, ran, (asks, is)) goes =
    same_sleeps between after (ap request_of is) (ap stage_of is) (runs_sleeps port between before sleeps ran goes)
runs_sleeps port after (drop ∷ before) sleeps (between, ran, (forsaken, is)) goes =
    same_sleeps between after (ap request_of is) (ap stage_of is) (runs_sleeps port between before sleeps ran goes)
runs_sleeps port after (make op reply wanted now result ∷ before) sleeps (between, ran, (waited, asks, answers, is)) goes =
    taken_sleeps between.outstanding between reply wanted now result after (runs_sleeps port between before sleeps ran goes.1) goes.0 is

-- ---- what was asked is done

begun_rests : (stage : Stage) → IfWorking (begun_in stage) IsResting
begun_rests stages.Absent = tt
begun_rests (stages.Left reason) = tt
begun_rests (stages.Working job) = tt

asked_by : (o : Outstanding) (port : Port) → o ≡ outstanding.Nothing → (reconsidered_by o port).stage ≡ begun_in port.stage
asked_by outstanding.Nothing port e = refl
asked_by outstanding.Forsaken port e = refl
asked_by outstanding.Awaited port e = absurd (let same = e in cc)
asked_by outstanding.Stale port e = absurd (let same = e in cc)

same_request : (o : Outstanding) (port : Port) → (reconsidered_by o port).request ≡ port.request
same_request outstanding.Nothing port = refl
same_request outstanding.Forsaken port = refl
same_request outstanding.Awaited port = refl
same_request outstanding.Stale port = refl

there_left : (stage : Stage) → is_there stage ≡ true → left_in (begun_in stage) ≡ 65
there_left stages.Absent there = absurd (let same : false ≡ true = there in cc)
there_left (stages.Left reason) there = begun_reading false
there_left (stages.Working job) there = begun_reading false

up_rests : (stage : Stage) → IsUpStage stage → IfWorking stage IsResting → ⊥
up_rests stages.Absent up rests = up
up_rests (stages.Left reason) up rests = up
up_rests (stages.Working (jobs.Reading job woken)) up rests = up
up_rests (stages.Working (jobs.Waking job)) up rests = up
up_rests (stages.Working (jobs.Sleeping job)) up rests = up
up_rests (stages.Working (jobs.Provisioning job goal)) up rests = up
up_rests (stages.Working (jobs.Activating job goal)) up rests = up
up_rests (stages.Working (jobs.Confirming job)) up rests = up
up_rests (stages.Working (jobs.Watching job)) up rests = rests

module _ (port later : Port) (request : Request) (story : Story) (there : is_there port.stage ≡ true) (nothing : port.outstanding ≡ outstanding.Nothing) (ran : Runs (asked_for request port) story later)
    (goes : IsGoingOn story) where
  begun : (asked_for request port).stage ≡ begun_in port.stage
  begun = asked_by port.outstanding (record port { vain = false; request = request }) nothing

  first : left_in (asked_for request port).stage ≡ 65
  first = ap left_in begun ∙ there_left port.stage there

  comes_up : 65 + 3 * paused_in story < made_in story → IsUpStage later.stage
  comes_up many =
      elim (is_up_or_not later.stage) as (λ _. IsUpStage later.stage) [
        | inl up ↦ up
        | inr not ↦ absurd (omega (arith, runs_nearer (asked_for request port) later story ran goes not, first, many))
      ]

  asleep : is_sleep request ≡ true → IfWorking later.stage IsResting
  asleep sleep =
      (runs_sleeps (asked_for request port) later story
      (record {
        sleep = ap is_sleep (same_request port.outstanding (record port { vain = false; request = request })) ∙ sleep;
        rests = subst (λ (stage : Stage). IfWorking stage IsResting) (sym begun) (begun_rests port.stage);
      }) ran goes).rests

  wakes : (sleep : Bool) → is_sleep request ≡ sleep → IsUpStage later.stage → is_sleep request ≡ false
  wakes true sleep up = absurd (up_rests later.stage up (asleep sleep))
  wakes false sleep up = sleep

  pub done : 65 + 3 * paused_in story < made_in story → IsUpStage later.stage × (is_sleep request ≡ false)
  done many = (comes_up many, wakes (is_sleep request) refl (comes_up many))

pub what_is_asked_is_done : IsRequestDone
what_is_asked_is_done port later request story there nothing ran goes many = done port later request story there nothing ran goes many
