-- A port: what is to be done at a moment, and what becomes of it when a module is plugged or pulled. (this project's own)
use Rattle.std.specs.Prelude.{◌≡◌, ◌*◌, ◌==◌, ◌||◌, ◌&&◌, not, ℕ, max, min, nat_le, nat_lt, Bool, true, false, Option, Some, None, if◌then◌else◌}
use Rattle.bus_model.specs.declared.operation.Op.{Op}
use Rattle.bus_model.specs.declared.operation.Reply.{Reply}
use Rattle.conversations.specs.declared.next.Next.{Next}
use Rattle.conversations.specs.declared.next.Next.TheVariants.{Do, Wait, End}
use Rattle.port_manager.specs.declared.port.Outstanding.{Outstanding}
use Rattle.port_manager.specs.declared.port.Outstanding.TheVariants.{Nothing, Awaited, Stale, Forsaken}
use Rattle.port_manager.specs.declared.port.Port.{Port}
use Rattle.port_manager.specs.declared.port.Rest.{Rest}
use Rattle.port_manager.specs.declared.port.Rest.TheVariants.{Busy, Idle}
use Rattle.port_manager.specs.declared.port.Stage.{Stage}
use Rattle.port_manager.specs.declared.port.Stage.TheVariants.{Absent, Left, Working}
use Rattle.port_manager.specs.declared.port.Outcome.{Outcome}
use Rattle.port_manager.specs.declared.port.Outcome.TheVariants as outcome
use Rattle.port_manager.specs.declared.times.Times.{Times}
use Rattle.port_manager.specs.declared.deciding.Wanted.{Wanted}
use Rattle.port_manager.specs.declared.flags.FlagKeeper.{FlagKeeper}
use Rattle.port_manager.specs.declared.turn.Note.{Note}
use Rattle.port_manager.specs.declared.turn.Note.TheVariants as notes
use Rattle.port_manager.specs.declared.turn.PortFault.{PortFault}
use Rattle.port_manager.specs.declared.turn.PortFault.TheVariants as faults
use Rattle.port_manager.specs.declared.flags.Flags.{Flags}
use Rattle.port_manager.specs.Flags.{acknowledged, noted, unread}
use Rattle.port_manager.specs.Turns.{IsTurn}
use Rattle.port_manager.specs.Turns.{Turn}
use Rattle.port_manager.specs.Turns as turn
use Rattle.port_manager.specs.declared.job.Job.{Job}
use Rattle.port_manager.specs.declared.request.Request.{Request}
use Rattle.port_manager.specs.declared.request.Request.TheVariants.{Wake}
use Rattle.port_manager.specs.declared.silence.Presence.{Presence}
use Rattle.port_manager.specs.declared.silence.Presence.TheVariants as presence
use Rattle.port_manager.specs.Requests.{ended, granted}
use Rattle.port_manager.specs.Silences as silences
use Rattle.port_manager.specs.Waits.{later, left}
use Rattle.port_manager.specs.Jobs.{IsReplyTo, asked, reading}

-- nothing of a module but flags that were read
abbrev pub absent : Times → Outstanding → Flags → Bool → Port
absent times outstanding flags held =
    record {
      times = times;
      stage = Absent;
      due = 0;
      recheck_at = 0;
      back_off = times.first;
      outstanding = outstanding;
      vain = false;
      keeper = unread flags;
      held = held;
      request = Wake;
      silence = silences.none;
      apply_refused = false;
    }

abbrev pub forsaken : Outstanding → Outstanding
forsaken Nothing = Nothing
forsaken Awaited = Forsaken
forsaken Stale = Forsaken
forsaken Forsaken = Forsaken

abbrev pub pulled : Port → Port
pulled port = absent port.times (forsaken port.outstanding) port.keeper.flags port.held

abbrev pub plugged : ℕ → Port → Port
plugged now port = record (pulled port) { stage = Working (reading false); due = later now port.times.settle }

-- a module that is there is read anew
abbrev pub begun_in : Stage → Stage
begun_in Absent = Absent
begun_in (Left reason) = Working (reading false)
begun_in (Working job) = Working (reading false)

abbrev pub restarted : Port → Port
restarted port = record port { stage = begun_in port.stage }

-- what was asked for may have been made, so its reply is waited for
abbrev pub reconsidered_by : Outstanding → Port → Port
reconsidered_by Nothing port = restarted port
reconsidered_by Forsaken port = restarted port
reconsidered_by Awaited port = record port { outstanding = Stale }
reconsidered_by Stale port = record port { outstanding = Stale }

abbrev pub reconsidered : Port → Port
reconsidered port = reconsidered_by port.outstanding (record port { vain = false })

-- nothing is asked for, or the module is read anew
abbrev pub holding : Bool → Port → Port
holding held port = reconsidered (record port { held = held })

-- somebody asks something else
abbrev pub asked_for : Request → Port → Port
asked_for request port = reconsidered (record port { request = request })

abbrev pub is_there : Stage → Bool
is_there Absent = false
is_there (Left reason) = true
is_there (Working job) = true

-- a module that answers is there, and one that was silent for too long is not
abbrev pub presence_by : Port → Bool → ℕ → ℕ → Presence
presence_by port answered began now =
    if answered && not (is_there port.stage) then presence.Plugged
    else if is_there port.stage && silences.is_gone (silences.after port.silence answered began) now then presence.Pulled
    else presence.Same

abbrev pub silent : Bool → ℕ → Port → Port
silent answered began port = record port { silence = silences.after port.silence answered began }

abbrev pub heard_as : Presence → Port → Bool → ℕ → ℕ → Port
heard_as presence.Plugged port answered began now = plugged now port
heard_as presence.Pulled port answered began now = pulled port
heard_as presence.Same port answered began now = silent answered began port

abbrev pub heard : Port → Bool → ℕ → ℕ → Port
heard port answered began now = heard_as (presence_by port answered began now) port answered began now

-- flags up to this moment are known to somebody
abbrev pub acknowledged_to : ℕ → Port → Port
acknowledged_to moment port = record port { keeper = acknowledged port.keeper moment }

abbrev pub next_of : Option Op → Next Rest
next_of None = End Idle
next_of (Some op) = Do op

-- a module that is left alone is waited for, unless only somebody can ask for it
abbrev pub next_of_left : Port → ℕ → Next Rest
next_of_left port now = if port.times.recheck == 0 then End Idle else Wait (left now port.recheck_at)

-- an operation is asked for from the moment on that is waited for
abbrev pub next_in : Stage → Port → ℕ → Next Rest
next_in Absent port now = End Idle
next_in (Left reason) port now = next_of_left port now
next_in (Working job) port now = if nat_lt now port.due then Wait (left now port.due) else next_of (asked job)

-- and while none is outstanding, unless the port is to hold still
abbrev pub next_when : Outstanding → Port → ℕ → Next Rest
next_when Nothing port now = if port.held then End Idle else next_in port.stage port now
next_when Awaited port now = End Busy
next_when Stale port now = End Busy
next_when Forsaken port now = End Busy

abbrev pub next_at : Port → ℕ → Next Rest
next_at port now = next_when port.outstanding port now

-- the moment that is waited for
abbrev pub until_in : Stage → Port → ℕ
until_in Absent port = port.due
until_in (Left reason) port = port.recheck_at
until_in (Working job) port = port.due

abbrev pub until : Port → ℕ
until port = until_in port.stage port

-- a module was left alone for long enough
abbrev pub is_overdue_in : Stage → Port → ℕ → Bool
is_overdue_in Absent port now = false
is_overdue_in (Left reason) port now = not port.held && not (port.times.recheck == 0) && nat_le port.recheck_at now
is_overdue_in (Working job) port now = false

abbrev pub is_overdue : Port → ℕ → Bool
is_overdue port now = is_overdue_in port.stage port now

-- such a module is read and judged anew, as if somebody asked
abbrev pub rechecked : ℕ → Port → Port
rechecked now port = if is_overdue port now then reconsidered port else port

abbrev pub asking : Port → Next Rest → Port
asking port (Do op) = record port { outstanding = Awaited }
asking port (Wait time) = port
asking port (End rest) = port

abbrev pub IfWorking : Stage → (Job → Type 0) → Type 0
IfWorking Absent P = Unit {0}
IfWorking (Left reason) P = Unit {0}
IfWorking (Working job) P = P job

-- the operation whose reply is awaited
abbrev pub asked_in : Stage → Option Op
asked_in Absent = None
asked_in (Left reason) = None
asked_in (Working job) = asked job

abbrev pub awaited : Port → Option Op
awaited port = asked_in port.stage

-- the reply is one that may come
abbrev pub IsAwaitedBy : Outstanding → Port → Reply → Type 0
IsAwaitedBy Nothing port reply = ⊥
IsAwaitedBy Awaited port reply = IsReplyTo (awaited port) reply
IsAwaitedBy Stale port reply = IsReplyTo (awaited port) reply
IsAwaitedBy Forsaken port reply = Unit {0}

abbrev pub IsAwaited : Port → Reply → Type 0
IsAwaited port reply = IsAwaitedBy port.outstanding port reply

-- ---- the reply to an operation

-- whether a module counts as woken up in vain after a failure: it was told to wake up and is not ready, unless it has changed since
abbrev pub is_vain_after : PortFault → Bool → Bool
is_vain_after faults.Asleep before = true
is_vain_after (faults.Waking why) before = true
is_vain_after faults.Changed before = false
is_vain_after faults.Unread before = before
is_vain_after (faults.Sleeping why) before = before
is_vain_after faults.Unseen before = before
is_vain_after (faults.Provisioning why) before = before
is_vain_after (faults.Activating why) before = before
is_vain_after faults.ApplyRefused before = before
is_vain_after faults.WakingRefused before = before

abbrev pub is_apply_refused : PortFault → Bool
is_apply_refused faults.ApplyRefused = true
is_apply_refused faults.Unread = false
is_apply_refused faults.Asleep = false
is_apply_refused (faults.Waking why) = false
is_apply_refused (faults.Sleeping why) = false
is_apply_refused (faults.Provisioning why) = false
is_apply_refused (faults.Activating why) = false
is_apply_refused faults.Unseen = false
is_apply_refused faults.Changed = false
is_apply_refused faults.WakingRefused = false

-- the control bytes are active, or the module is as it is wanted
abbrev pub is_settled_by : Note → Bool
is_settled_by notes.Provisioned = true
is_settled_by notes.CameUp = true
is_settled_by notes.Held = true
is_settled_by notes.Quiet = false
is_settled_by notes.Identified = false
is_settled_by notes.Woken = false

-- a look is followed by a longer pause
abbrev pub wait_of : Times → Note → ℕ
wait_of times notes.Held = times.period
wait_of times notes.CameUp = times.period
wait_of times notes.Quiet = 0
wait_of times notes.Identified = 0
wait_of times notes.Woken = 0
wait_of times notes.Provisioned = 0

-- the next failure is the first one again once the module was looked at and was as wanted
abbrev pub back_off_after : Port → Note → ℕ
back_off_after port notes.Held = port.times.first
back_off_after port notes.CameUp = port.back_off
back_off_after port notes.Quiet = port.back_off
back_off_after port notes.Identified = port.back_off
back_off_after port notes.Woken = port.back_off
back_off_after port notes.Provisioned = port.back_off

-- a module that is up is as it was asked
abbrev pub request_after : Request → Note → Request
request_after request notes.CameUp = ended request
request_after request notes.Held = request
request_after request notes.Quiet = request
request_after request notes.Identified = request
request_after request notes.Woken = request
request_after request notes.Provisioned = request

abbrev pub waiting : Port → Note → ℕ → Port
waiting port note now =
    record port {
      due = max port.due (later now (wait_of port.times note));
      back_off = back_off_after port note;
      request = request_after port.request note;
      apply_refused = port.apply_refused && not (is_settled_by note);
    }

-- when it may be tried again
abbrev pub again : Port → ℕ → ℕ
again port now = max port.due (later now port.back_off)

abbrev pub vain_after : Port → PortFault → Bool
vain_after port why = is_vain_after why port.vain

abbrev pub turned : Port → Turn → ℕ → Port
turned port (turn.On job note) now = waiting (record port { stage = Working job }) note now
turned port (turn.Paused job time) now = record port { stage = Working job; due = max port.due (later now time) }
turned port (turn.Failed why) now =
    record port {
      stage = Working (reading (vain_after port why));
      due = again port now;
      back_off = min (2 * port.back_off) port.times.most;
      vain = vain_after port why;
      apply_refused = port.apply_refused || is_apply_refused why;
    }
turned port (turn.Left reason) now =
    record port { stage = Left reason; recheck_at = later now port.times.recheck; request = ended port.request; apply_refused = false }

abbrev pub outcome_of : Port → Turn → ℕ → Outcome
outcome_of port (turn.On job note) now = outcome.Went note
outcome_of port (turn.Paused job time) now = outcome.Paused (max port.due (later now time))
outcome_of port (turn.Failed why) now = outcome.Failed why (again port now)
outcome_of port (turn.Left reason) now = outcome.Left reason

-- the flags that the reply shows are kept
abbrev pub noted_of : FlagKeeper → Option Op → Reply → ℕ → FlagKeeper
noted_of keeper None reply now = keeper
noted_of keeper (Some op) reply now = noted keeper op reply now

abbrev pub noting : Port → Option Op → Reply → ℕ → Port
noting port asked reply now = record port { keeper = noted_of port.keeper asked reply now }

abbrev pub answered : Port → Port
answered port = record port { outstanding = Nothing }

abbrev pub IsDropped : Port → Outcome → Port → Type 0
IsDropped port result later = (result ≡ outcome.Dropped) × (later ≡ answered port)

-- the job goes on by the reply
abbrev pub IsTurnedIn : Stage → Port → Reply → Wanted → ℕ → Outcome → Port → Type 0
IsTurnedIn Absent port reply wanted now result later = IsDropped port result later
IsTurnedIn (Left reason) port reply wanted now result later = IsDropped port result later
IsTurnedIn (Working job) port reply wanted now result later =
    (turn : Turn) × IsTurn port.apply_refused (granted port.request wanted) job reply turn × (result ≡ outcome_of port turn now) × (later ≡ turned (noting (answered port) (asked job) reply now) turn now)

-- the module is read anew after the reply
abbrev pub IsRestartedIn : Stage → Port → Reply → ℕ → Outcome → Port → Type 0
IsRestartedIn Absent port reply now result later = IsDropped port result later
IsRestartedIn (Left reason) port reply now result later = IsDropped port result later
IsRestartedIn (Working job) port reply now result later =
    (result ≡ outcome.Dropped) × (later ≡ record (noting (answered port) (asked job) reply now) { stage = Working (reading port.vain) })

abbrev pub IsTakenBy : Outstanding → Port → Reply → Wanted → ℕ → Outcome → Port → Type 0
IsTakenBy Nothing port reply wanted now result later = IsDropped port result later
IsTakenBy Forsaken port reply wanted now result later = IsDropped port result later
IsTakenBy Awaited port reply wanted now result later = IsTurnedIn port.stage port reply wanted now result later
IsTakenBy Stale port reply wanted now result later = IsRestartedIn port.stage port reply now result later

-- what becomes of the port by a reply that is taken at this moment, and what is answered
abbrev pub IsTaken : Port → Reply → Wanted → ℕ → Outcome → Port → Type 0
IsTaken port reply wanted now result later = IsTakenBy port.outstanding port reply wanted now result later
