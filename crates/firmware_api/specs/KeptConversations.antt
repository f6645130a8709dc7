-- The conversations that C keeps: procedures of tasks, changes of power, and readings. What each wants, what a reply or a pause makes
-- of it, which events it was told, and how it ends. (docs/firmware.md, "Conversations"; this project's own)
use Rattle.std.specs.Prelude.{◌≡◌, ℕ, true, Bool, Option, None}
use Rattle.std.specs.Option.{option_map}
use Rattle.bus_model.specs.declared.operation.Reply.{Reply}
use Rattle.conversations.specs.declared.in_pieces.InPieces.{InPieces}
use Rattle.conversations.specs.declared.next.Next.{Next}
use Rattle.conversations.specs.declared.next.Next.TheVariants.{Do, Wait, End}
use Rattle.conversations.specs.declared.on_page.OnPage.{OnPage}
use Rattle.conversations.specs.declared.pausing.Patience.{Patience}
use Rattle.conversations.specs.declared.pausing.Timed.{Timed}
use Rattle.conversations.specs.declared.pausing.Timed.TheVariants.{InTime, Overdue}
use Rattle.conversations.specs.declared.watching.Watched.{Watched}
use Rattle.conversations.specs.declared.watching.Watched.TheVariants.{InOrder}
use Rattle.conversations.specs.declared.within.Spent.{Spent}
use Rattle.conversations.specs.Events.{Events, steps_of}
use Rattle.conversations.specs.Patiently.{EndsPatiently, GoesOnPatiently, Patient, ToldPatiently, after_patiently, paused, wants_patiently}
use Rattle.conversations.specs.Pieces.{InHalves, InHalvesSoFar, IsInPieces, after_piece, next_piece}
use Rattle.conversations.specs.Selecting.{Knows, trusted}
use Rattle.conversations.specs.Wanted.{op_of}
use Rattle.conversations.specs.Watching.{EndsWatching, WithLooks, after_watching, look_after_wait, next_watching}
use Rattle.control_sets.specs.declared.fault.ProvisionFault.{ProvisionFault}
use Rattle.control_sets.specs.declared.procedures.power.Power.{Power}
use Rattle.control_sets.specs.declared.procedures.procedure.Work.{Work}
use Rattle.control_sets.specs.PatientProcedures.{WatchfulProcedure}
use Rattle.control_sets.specs.PowerProgress.{GoesOnAt, IsEndedIn, PatientPower, ToldPower, change_after, power_wants}
use Rattle.control_sets.specs.Progress as tasks
use Rattle.module_reading.specs.declared.halves.Halves.{Halves}
use Rattle.module_reading.specs.declared.request.Request.{Request}
use Rattle.module_reading.specs.ImageReading as reading
use Rattle.module_reading.specs.ReadingRuns.{WithOwn}
use Rattle.port_manager.specs.Jobs.{paged_halves, paged_tasks}
use Rattle.port_manager.specs.Patients.{after_on, wants_on}
use Rattle.firmware_api.specs.declared.kept.Kept.{Kept}
use Rattle.firmware_api.specs.declared.kept.Kept.TheVariants.{OfTasks, OfPower, OfReading}

-- ---- tasks on confirmed pages, with looks at the module's state

abbrev pub watchful_after : WatchfulProcedure → Reply → WatchfulProcedure
watchful_after it reply = after_watching (wants_patiently tasks.tasks_want) (after_patiently tasks.tasks_want (after_on paged_tasks)) it reply

-- ---- halves on confirmed pages, in pieces

abbrev pub OnHalves : Type 0
OnHalves = OnPage Halves

abbrev pub InHand : Type 0
InHand = InPieces OnHalves

abbrev pub halves_told : OnHalves → Events → Type 0
halves_told on events =
    Knows true (reading.addressing on.conversation) on.selection on.taken (trusted on.doubts (steps_of events))
    × WithOwn on.doubts on.conversation.request (λ own. reading.IsTold own on.conversation) events

abbrev pub pieces_want : InHand → Next (Unit {0})
pieces_want pieces = next_piece pieces.piece pieces.part.items (wants_on paged_halves pieces.conversation)

abbrev pub pieces_after : InHand → Reply → InHand
pieces_after pieces reply = after_piece (wants_on paged_halves) (after_on paged_halves) pieces reply

abbrev pub pieces_told : Events → InHand → Type 0
pieces_told events pieces = IsInPieces (halves_told pieces.conversation) (wants_on paged_halves pieces.conversation) pieces.piece pieces.part.items events

-- how far the halves of a reading have come
abbrev pub halves_of : Patient InHand → Halves
halves_of read = read.conversation.conversation.conversation.conversation

-- ---- each of the three

abbrev pub Spending : Type 0
Spending = Spent (Timed (Option ProvisionFault))

-- how it ends: a reading that was read whole has no fault
abbrev pub Ending : Type 0
Ending = Watched Spending

abbrev pub no_fault : Timed (Unit {0}) → Timed (Option ProvisionFault)
no_fault (InTime end) = InTime None
no_fault Overdue = Overdue

abbrev pub read_ending : Spent (Timed (Unit {0})) → Ending
read_ending spent = InOrder (record { steps = spent.steps; end = option_map no_fault spent.end })

-- with how the conversation itself ends
abbrev pub ending_by : {E : Type 0} → (E → Ending) → Next E → Next Ending
ending_by f (Do op) = Do op
ending_by f (Wait time) = Wait time
ending_by f (End spent) = End (f spent)

abbrev pub next_of : Kept → Next Ending
next_of (OfTasks procedure) = next_watching procedure.look (wants_patiently tasks.tasks_want procedure.conversation)
next_of (OfPower change) = ending_by InOrder (wants_patiently power_wants change)
next_of (OfReading read) = ending_by read_ending (wants_patiently pieces_want read)

abbrev pub after : Kept → Reply → Kept
after (OfTasks procedure) reply = OfTasks (watchful_after procedure reply)
after (OfPower change) reply = OfPower (after_patiently power_wants change_after change reply)
after (OfReading read) reply = OfReading (after_patiently pieces_want pieces_after read reply)

abbrev pub after_pause : Kept → Kept
after_pause (OfTasks it) = OfTasks (record { conversation = paused it.conversation; watches = it.watches; look = look_after_wait it.watches it.look })
after_pause (OfPower change) = OfPower (paused change)
after_pause (OfReading read) = OfReading (paused read)

abbrev pub WasTold : Events → Kept → Type 0
WasTold events (OfTasks it) =
    WithLooks it.watches it.look (op_of (wants_patiently tasks.tasks_want it.conversation)) (λ own. tasks.ToldPatient own it.conversation) events
WasTold events (OfPower change) = ToldPower events change
WasTold events (OfReading read) = ToldPatiently pieces_want pieces_told events read

abbrev pub PowerEnds : PatientPower → Events → Spending → Type 0
PowerEnds change events spent =
    let power = change.conversation.conversation.power in
    EndsPatiently (λ own. GoesOnAt power (steps_of own)) (λ own fault. IsEndedIn power fault (steps_of own)) change events spent

abbrev pub ReadingEnds : Patient InHand → Events → Spent (Timed (Unit {0})) → Type 0
ReadingEnds read events spent =
    let on = read.conversation.conversation.conversation in
    let with_own = WithOwn on.doubts on.conversation.request in
    EndsPatiently (InHalvesSoFar (with_own (reading.GoesOnHalves on.conversation.request))) (λ events end. InHalves (with_own (reading.EndsHalves on.conversation.request)) events) read events spent

abbrev pub EndsSo : Kept → Events → Ending → Type 0
EndsSo (OfTasks it) events ending =
    let on = it.conversation.conversation.conversation in
    let goes_on = tasks.GoesOn on.doubts on.conversation.work in
    EndsWatching it.watches (GoesOnPatiently goes_on it.conversation) (EndsPatiently goes_on (tasks.Ends on.doubts on.conversation.work) it.conversation) events ending
EndsSo (OfPower change) events ending = (spent : Spending) × (ending ≡ InOrder spent) × PowerEnds change events spent
EndsSo (OfReading read) events ending = (spent : Spent (Timed (Unit {0}))) × (ending ≡ read_ending spent) × ReadingEnds read events spent

-- what it is about, which no reply changes
pub data Subject : Type 0 where
  Bringing : Work → Bool → Bool → Subject
  Turning : Power → Subject
  Fetching : Request → ℕ → Bool → Subject

abbrev pub about : Kept → Subject
about (OfTasks procedure) = let on = procedure.conversation.conversation.conversation in Bringing on.conversation.work on.doubts procedure.watches
about (OfPower change) = Turning change.conversation.conversation.power
about (OfReading read) = let pieces = read.conversation.conversation in Fetching pieces.conversation.conversation.request pieces.piece pieces.conversation.doubts

abbrev pub patience_of : Kept → Patience
patience_of (OfTasks procedure) = procedure.conversation.conversation.patience
patience_of (OfPower change) = change.conversation.patience
patience_of (OfReading read) = read.conversation.patience
