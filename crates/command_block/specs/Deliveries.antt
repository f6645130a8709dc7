-- An attempt on a real bus: its page is confirmed, and doubted after a refusal; it pauses where a transaction was fruitless, and waits
-- for as long as the module may need. (OIF-CMIS-05.0, "CDB Messaging"; docs/bus.md, "Conversations"; this project's own)
use Rattle.std.specs.Prelude.{◌≡◌, ◌≤◌, ◌<◌, ℕ, ◌+◌, max, Bool, true, false, Option, Some, None, length}
use Rattle.std.specs.Int.{div_ceil}
use Rattle.bus_model.specs.declared.operation.Op.{Op}
use Rattle.bus_model.specs.declared.operation.Reply.{Reply}
use Rattle.conversations.specs.declared.next.Next.{Next}
use Rattle.conversations.specs.declared.next.Next.TheVariants.{Do, Wait, End}
use Rattle.conversations.specs.declared.on_page.OnPage.{OnPage}
use Rattle.conversations.specs.declared.pausing.Patience.{Patience}
use Rattle.conversations.specs.declared.pausing.Pausing.{Pausing}
use Rattle.conversations.specs.declared.pausing.Timed.{Timed}
use Rattle.conversations.specs.declared.within.Spent.{Spent}
use Rattle.conversations.specs.declared.within.Within.{Within}
use Rattle.conversations.specs.Budgets.{next_within}
use Rattle.conversations.specs.Events.{Events, steps_of}
use Rattle.conversations.specs.Pauses.{AddsPauses, WithPauses, after_pausing, next_pausing}
use Rattle.conversations.specs.Selecting.{AddsSelections, Knows, WithSelections, next_on, on_after, trusted}
use Rattle.conversations.specs.Wanted.{op_of}
use Rattle.paged_memory.specs.declared.page_addressing.KnownPage.TheVariants.{Unknown}
use Rattle.paged_memory.specs.declared.page_addressing.PageAddressing.TheVariants.{BankAndPage}
use Rattle.command_block.specs.declared.attempt.Attempt.{Attempt}
use Rattle.command_block.specs.declared.attempt.Timing.{Timing}
use Rattle.command_block.specs.declared.delivery.Delivery.{Delivery}
use Rattle.command_block.specs.declared.message.Message.{Message}
use Rattle.command_block.specs.declared.outcome.Outcome.{Outcome}
use Rattle.command_block.specs.AttemptEvents.{IsTold, RestsAfterTrigger, attempt_after}
use Rattle.command_block.specs.Attempts.{IsAttempt}
use Rattle.command_block.specs.Phases.{begun, known, lacking, page_of, taken, wants}

-- ---- how long it waits

abbrev pub most_steps : ℕ
most_steps = 4096

abbrev pub shortest_pause : ℕ
shortest_pause = 10

abbrev pub shortest_limit : ℕ
shortest_limit = 10000

-- so long that 1,000 pauses last for as long as this
abbrev pub pause_for : ℕ → ℕ
pause_for duration = max shortest_pause (div_ceil duration 1000)

-- with a module that may need so many milliseconds
abbrev pub patience_for : ℕ → Patience
patience_for duration = record { pause = pause_for duration; limit = max shortest_limit duration }

abbrev pub timing_for : ℕ → ℕ → Timing
timing_for duration delay = record { delay = delay; rest = pause_for duration }

-- ---- what it is made of

abbrev pub Paged : Type 0
Paged = OnPage Attempt

abbrev pub Patient : Type 0
Patient = Within (Pausing Paged)

abbrev pub patient_of : Attempt → Patience → Patient
patient_of attempt patience = record {
  conversation = record {
    conversation = record { conversation = attempt; selection = Unknown; taken = None; doubts = true };
    patience = patience;
    due = false;
    idle = 0;
  };
  steps = 0;
  limit = most_steps;
}

abbrev pub begun_delivery : Message → ℕ → ℕ → Delivery
begun_delivery message duration delay = record { patient = patient_of (begun message (timing_for duration delay)) (patience_for duration) }

abbrev pub attempt_in : Patient → Attempt
attempt_in patient = patient.conversation.conversation.conversation

-- ---- what it wants

abbrev pub paged_wants : Paged → Next Outcome
paged_wants on = next_on BankAndPage on.selection (page_of on.conversation) (wants on.conversation)

abbrev pub patient_wants : Patient → Next (Spent (Timed Outcome))
patient_wants patient =
    next_within patient.steps patient.limit (next_pausing patient.conversation.due patient.conversation.idle patient.conversation.patience (paged_wants patient.conversation.conversation))

-- where it ends, in time or not, what is known then
abbrev pub ending_as : Outcome → Next (Spent (Timed Outcome)) → Next Outcome
ending_as outcome (Do op) = Do op
ending_as outcome (Wait time) = Wait time
ending_as outcome (End spent) = End outcome

abbrev pub delivery_wants : Delivery → Next Outcome
delivery_wants delivery = ending_as (known (attempt_in delivery.patient)) (patient_wants delivery.patient)

abbrev pub paged_after : Paged → Reply → Paged
paged_after on reply = on_after (λ attempt r. taken attempt r) (λ attempt number. lacking attempt) true BankAndPage (page_of on.conversation) on reply

abbrev pub patient_after : Patient → Reply → Patient
patient_after patient reply = record {
  conversation = after_pausing (λ on. paged_wants on) (λ on r. paged_after on r) patient.conversation reply;
  steps = patient.steps + 1;
  limit = patient.limit;
}

abbrev pub delivery_after : Delivery → Reply → Delivery
delivery_after delivery reply = record { patient = patient_after delivery.patient reply }

-- ---- what it was told

abbrev pub needed_after : Message → Timing → Events → Option ℕ
needed_after message timing own = page_of (attempt_after message timing own)

abbrev pub ToldPaged : Events → Paged → Type 0
ToldPaged events on =
    Knows true (Some BankAndPage) on.selection on.taken (trusted on.doubts (steps_of events))
    × WithSelections on.doubts true (λ own. Some BankAndPage) (λ own. needed_after on.conversation.message on.conversation.timing own) (λ own. IsTold own on.conversation) events

abbrev pub ToldPatient : Events → Patient → Type 0
ToldPatient events patient =
    WithPauses patient.conversation.patience (λ paged. ToldPaged paged patient.conversation.conversation) (op_of (paged_wants patient.conversation.conversation)) patient.conversation.due patient.conversation.idle events
    × (length (steps_of events) ≡ patient.steps)
    × (patient.steps ≤ patient.limit)

-- ---- what that shows

-- how many operations it may make, how patient it is, whether it doubts, the message, and its timing
abbrev pub Terms : Type 0
Terms = ℕ × (Patience × (Bool × (Message × Timing)))

abbrev pub terms_of : Patient → Terms
terms_of patient =
    (patient.limit, (patient.conversation.patience, (patient.conversation.conversation.doubts, ((attempt_in patient).message, (attempt_in patient).timing))))

abbrev pub terms_for : Message → ℕ → ℕ → Terms
terms_for message duration delay = (most_steps, (patience_for duration, (true, (message, timing_for duration delay))))

-- these events, the newest first, are those of an attempt, with selections of its page, each read back, and with pauses; and this is
-- what they show of the message
pub record IsDelivered (terms : Terms) (events : Events) (outcome : Outcome) : Type 0 where
  pub own : Events
  pub paged : Events
  pub next : Option Op
  pub due : Bool
  pub idle : ℕ
  pub pauses : AddsPauses terms.1.0 paged events next due idle
  pub selects : AddsSelections terms.1.1.0 true BankAndPage (λ before. needed_after terms.1.1.1.0 terms.1.1.1.1 before) own paged
  pub shown : IsAttempt terms.1.1.1.0 (steps_of own) outcome
  pub rests : RestsAfterTrigger terms.1.1.1.0 terms.1.1.1.1 own
  pub few : length (steps_of events) ≤ terms.0

-- and it may make one operation more
abbrev pub GoesOnDelivery : Terms → Events → Type 0
GoesOnDelivery terms events = ((outcome : Outcome) × IsDelivered terms events outcome) × (length (steps_of events) < terms.0)
