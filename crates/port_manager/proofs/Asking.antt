-- What works at a module always asks for an operation.
use Rattle.std.proofs.Common.{◌≡◌, ◌≤◌, ℕ, Bool, true, false, List, [], ◌∷◌, Option, Some, refl, sym, ap, subst, ◌∙◌, arith, nat_lt}
use Rattle.std.specs.Prelude.{if◌then◌else◌, slice_get}
use Rattle.std.specs.FinMap as map
use Rattle.bus_model.specs.declared.device.Dev.TheVariants.{A0}
use Rattle.bus_model.specs.declared.operation.Op.{Op}
use Rattle.bus_model.specs.declared.operation.Op.TheVariants.{Fetch}
use Rattle.bus_model.specs.declared.operation.Reply.{Reply}
use Rattle.conversations.specs.declared.next.Next.TheVariants as nexts
use Rattle.conversations.specs.declared.pausing.Patience.{Patience}
use Rattle.conversations.specs.Budgets.{next_within}
use Rattle.conversations.specs.Pauses.{next_pausing}
use Rattle.conversations.specs.Selecting.{next_on}
use Rattle.conversations.specs.Wanted.{op_of}
use Rattle.control_sets.specs.Durations.{patience_for}
use Rattle.control_sets.specs.OutcomeAnswers.{most_steps}
use Rattle.paged_memory.specs.declared.page_addressing.KnownPage.TheVariants.{Unknown}
use Rattle.paged_memory.specs.declared.page_addressing.PageAddressing.TheVariants.{BankAndPage}
use Rattle.module_reading.specs.declared.region.Region.{Region}
use Rattle.module_reading.specs.ImageReading as reader
use Rattle.module_reading.specs.Regions.{everything}
use Rattle.module_reading.proofs.RegionLaws.{asked_of_nothing}
use Rattle.port_manager.specs.declared.deciding.Decision.{Decision}
use Rattle.port_manager.specs.declared.deciding.Decision.TheVariants.{Leave, Wake, Sleep, Hold, Activate, Provision}
use Rattle.port_manager.specs.declared.deciding.Wanted.{Wanted}
use Rattle.port_manager.specs.declared.job.Job.{Job}
use Rattle.port_manager.specs.declared.job.Job.TheVariants as jobs
use Rattle.port_manager.specs.declared.port.Outcome.{Outcome}
use Rattle.port_manager.specs.declared.port.Outstanding.{Outstanding}
use Rattle.port_manager.specs.declared.port.Outstanding.TheVariants as outstanding
use Rattle.port_manager.specs.declared.port.Port.{Port}
use Rattle.port_manager.specs.declared.port.Rest.TheVariants as rests
use Rattle.port_manager.specs.declared.port.Stage.{Stage}
use Rattle.port_manager.specs.declared.port.Stage.TheVariants as stages
use Rattle.port_manager.specs.Turns.{Turn}
use Rattle.port_manager.specs.Turns as turns
use Rattle.port_manager.specs.Flags.{no_flags}
use Rattle.port_manager.specs.Jobs.{asked, reading}
use Rattle.port_manager.specs.Ports.{IfWorking, IsRestartedIn, IsTakenBy, IsTurnedIn, absent, answered, begun_in, next_in, next_of, next_when, noting, reconsidered_by, turned, vain_after}
use Rattle.port_manager.specs.Progress.{NeverStops}
use Rattle.port_manager.specs.Requests.{granted}
use Rattle.port_manager.specs.Runs.{Becomes, Runs}
use Rattle.port_manager.specs.Stories.{Event, Story, ask, drop, make, plug, pull, reconsider, acknowledge, hold, demand, hear}
use Rattle.port_manager.specs.Turns.{decided}
use Rattle.port_manager.specs.Waits.{left}
use Rattle.port_manager.proofs.TurnCases.{Follows, IsAnyTurn, later, pause_of, turn_all}
use Rattle.port_manager.proofs.TurnLaws.{IfOn, on_going}

abbrev Asks : Job → Type 0
Asks job = (op : Op) × (asked job ≡ Some op)

-- ---- at the beginning

abbrev first_asked : List Region → Option Op
first_asked list =
    op_of (next_within 0 most_steps (next_pausing false 0 (patience_for map.empty) (next_on BankAndPage Unknown (reader.page_by (slice_get list 0)) (reader.wants_by (slice_get list 0)))))

begun_asks : (woken : Bool) → Asks (reading woken)
begun_asks woken = (Fetch A0 0 128, ap first_asked (asked_of_nothing everything))

-- ---- after a turn

decided_asks : (woken requested : Bool) (patience : Patience) (decision : Decision) → IfOn (decided woken requested patience decision) Asks
decided_asks woken requested patience (Leave reason) = tt
decided_asks true requested patience Wake = tt
decided_asks false requested patience Wake = (_, refl)
decided_asks woken requested patience Sleep = (_, refl)
decided_asks woken requested patience (Hold goal) = (_, refl)
decided_asks woken requested patience (Activate goal) = (_, refl)
decided_asks woken requested patience (Provision goal) = (_, refl)

follows_asks : (wanted : Wanted) (job : Job) (reply : Reply) → Follows (λ turn. IfOn turn Asks) wanted job reply
follows_asks wanted (jobs.Reading job woken) reply = λ decision whole judged. decided_asks woken _ _ decision
follows_asks wanted (jobs.Waking job) reply = begun_asks true
follows_asks wanted (jobs.Sleeping job) reply = tt
follows_asks wanted (jobs.Provisioning job goal) reply = (_, refl)
follows_asks wanted (jobs.Activating job goal) reply = (_, refl)
follows_asks wanted (jobs.Confirming job) reply = (_, refl)
follows_asks wanted (jobs.Watching job) reply = (_, refl)

turn_asks : (wanted : Wanted) (reply : Reply) (job : Job) (turn : Turn) → IsAnyTurn wanted job reply turn → IfOn turn Asks
turn_asks wanted reply job turn is =
    turn_all (λ turn. IfOn turn Asks) (λ why. tt) wanted job reply turn (λ op e. on_going Asks (pause_of job reply) (later job reply) (op, e)) (follows_asks wanted job reply) is

-- ---- over a story

abbrev StageAsks : Stage → Type 0
StageAsks stage = IfWorking stage Asks

turned_asks : (port : Port) (turn : Turn) (now : ℕ) → IfOn turn Asks → StageAsks (turned port turn now).stage
turned_asks port (turns.On job note) now asks = asks
turned_asks port (turns.Paused job time) now asks = asks
turned_asks port (turns.Failed fault) now asks = begun_asks (vain_after port fault)
turned_asks port (turns.Left reason) now asks = tt

turned_in_asks : (stage : Stage) (port : Port) (reply : Reply) (wanted : Wanted) (now : ℕ) (result : Outcome) (after : Port) → StageAsks port.stage → IsTurnedIn stage port reply wanted now result after → StageAsks after.stage
turned_in_asks stages.Absent port reply wanted now result after asks (gives, is) = subst (λ (after : Port). StageAsks after.stage) (sym is) asks
turned_in_asks (stages.Left reason) port reply wanted now result after asks (gives, is) = subst (λ (after : Port). StageAsks after.stage) (sym is) asks
turned_in_asks (stages.Working job) port reply wanted now result after asks (turn, leads, gives, is) =
    subst (λ (after : Port). StageAsks after.stage) (sym is) (turned_asks (noting (answered port) (asked job) reply now) turn now (turn_asks (granted port.request wanted) reply job turn (port.apply_refused, leads)))

restarted_in_asks : (stage : Stage) (port : Port) (reply : Reply) (now : ℕ) (result : Outcome) (after : Port) → StageAsks port.stage → IsRestartedIn stage port reply now result after → StageAsks after.stage
restarted_in_asks stages.Absent port reply now result after asks (gives, is) = subst (λ (after : Port). StageAsks after.stage) (sym is) asks
restarted_in_asks (stages.Left reason) port reply now result after asks (gives, is) = subst (λ (after : Port). StageAsks after.stage) (sym is) asks
restarted_in_asks (stages.Working job) port reply now result after asks (gives, is) = subst (λ (after : Port). StageAsks after.stage) (sym is) (begun_asks port.vain)

taken_asks : (o : Outstanding) (port : Port) (reply : Reply) (wanted : Wanted) (now : ℕ) (result : Outcome) (after : Port) → StageAsks port.stage → IsTakenBy o port reply wanted now result after → StageAsks after.stage
taken_asks outstanding.Nothing port reply wanted now result after asks (gives, is) = subst (λ (after : Port). StageAsks after.stage) (sym is) asks
taken_asks outstanding.Awaited port reply wanted now result after asks is = turned_in_asks port.stage port reply wanted now result after asks is
taken_asks outstanding.Stale port reply wanted now result after asks is = restarted_in_asks port.stage port reply now result after asks is
taken_asks outstanding.Forsaken port reply wanted now result after asks (gives, is) = subst (λ (after : Port). StageAsks after.stage) (sym is) asks

begun_in_asks : (stage : Stage) → StageAsks (begun_in stage)
begun_in_asks stages.Absent = tt
begun_in_asks (stages.Left reason) = begun_asks false
begun_in_asks (stages.Working job) = begun_asks false

reconsidered_asks : (o : Outstanding) (port : Port) → StageAsks port.stage → StageAsks (reconsidered_by o port).stage
reconsidered_asks outstanding.Nothing port asks = begun_in_asks port.stage
reconsidered_asks outstanding.Forsaken port asks = begun_in_asks port.stage
reconsidered_asks outstanding.Awaited port asks = asks
reconsidered_asks outstanding.Stale port asks = asks

event_asks : (port after : Port) (event : Event) → StageAsks port.stage → Becomes port event after → StageAsks after.stage
event_asks port after (plug now) asks is = subst (λ (after : Port). StageAsks after.stage) (sym is) (begun_asks false)
event_asks port after pull asks is = subst (λ (after : Port). StageAsks after.stage) (sym is) tt
event_asks port after reconsider asks is = subst (λ (after : Port). StageAsks after.stage) (sym is) (reconsidered_asks port.outstanding (record port { vain = false }) asks)
event_asks port after (hold held) asks is = subst (λ (after : Port). StageAsks after.stage) (sym is) (reconsidered_asks port.outstanding (record port { vain = false; held = held }) asks)
event_asks port after (demand request) asks is = subst (λ (after : Port). StageAsks after.stage) (sym is) (reconsidered_asks port.outstanding (record port { vain = false; request = request }) asks)
event_asks port after (acknowledge past) asks is = subst (λ (after : Port). StageAsks after.stage) (sym is) asks
event_asks port after (hear alive began) asks is = subst (λ (after : Port). StageAsks after.stage) (sym is) asks
event_asks port after (ask op moment) asks (does, is) = subst (λ (after : Port). StageAsks after.stage) (sym is) asks
event_asks port after (make op reply wanted now result) asks (waited, wants, answers, is) = taken_asks port.outstanding port reply wanted now result after asks is
event_asks port after drop asks (forsaken, is) = subst (λ (after : Port). StageAsks after.stage) (sym is) asks

runs_asks : (port after : Port) (story : Story) → StageAsks port.stage → Runs port story after → StageAsks after.stage
runs_asks port after [] asks is = subst (λ (after : Port). StageAsks after.stage) (sym is) asks
runs_asks port after (event ∷ before) asks (between, ran, is) = event_asks between after event (runs_asks port between before asks ran) is

not_early : (now due : ℕ) → due ≤ now → nat_lt now due ≡ false
not_early now due le = grind (arith, le)

in_time : (job : Job) (port : Port) (now : ℕ) (op : Op) → port.due ≤ now → asked job ≡ Some op → next_in (stages.Working job) port now ≡ nexts.Do op
in_time job port now op le asks = ap (λ (early : Bool). if early then nexts.Wait (left now port.due) else next_of (asked job)) (not_early now port.due le) ∙ ap next_of asks

pub never_stops : NeverStops
never_stops story port job now (times, ran) is nothing free due =
    let (op, asks) = subst (λ (stage : Stage). StageAsks stage) is (runs_asks (absent times outstanding.Nothing no_flags false) port story tt ran) in
    (op, ap (λ (o : Outstanding). next_when o port now) nothing ∙ ap (λ (held : Bool). if held then nexts.End rests.Idle else next_in port.stage port now) free ∙ ap (λ (stage : Stage). next_in stage port now) is ∙ in_time job port now op due asks)
