-- Conversations on a real bus: what they want, and what a reply makes of them and of the pause after it. (docs/bus.md,
-- "Conversations"; this project's own)
use Rattle.std.specs.Prelude.{ℕ, ◌+◌, Bool, false, Option, Some, None}
use Rattle.bus_model.specs.declared.operation.Reply.{Reply}
use Rattle.conversations.specs.declared.next.Next.{Next}
use Rattle.conversations.specs.declared.next.Next.TheVariants.{Do, Wait, End}
use Rattle.conversations.specs.declared.on_page.OnPage.{OnPage}
use Rattle.conversations.specs.declared.pausing.Pausing.{Pausing}
use Rattle.conversations.specs.declared.pausing.Timed.{Timed}
use Rattle.conversations.specs.declared.within.Spent.{Spent}
use Rattle.conversations.specs.declared.within.Within.{Within}
use Rattle.conversations.specs.Budgets.{next_within}
use Rattle.conversations.specs.Pauses.{after_pausing, counted, next_pausing}
use Rattle.conversations.specs.Selecting.{chosen, next_on, on_after}
use Rattle.paged_memory.specs.declared.page_addressing.PageAddressing.{PageAddressing}

-- it pauses, within as many operations as may be
abbrev pub Patient : Type 0 → Type 0
Patient C = Within (Pausing C)

abbrev pub wants_of : {C E : Type 0} → (C → Next E) → Patient C → Next (Spent (Timed E))
wants_of wants patient =
    next_within patient.steps patient.limit
    (next_pausing patient.conversation.due patient.conversation.idle patient.conversation.patience (wants patient.conversation.conversation))

abbrev pub replied : {C E : Type 0} → (C → Next E) → (C → Reply → C) → Patient C → Reply → Patient C
replied wants after patient reply =
    record { conversation = after_pausing wants after patient.conversation reply; steps = patient.steps + 1; limit = patient.limit }

-- the pause that was due has passed
abbrev pub rested : {C : Type 0} → Patient C → Patient C
rested patient = record {
  conversation = record {
    conversation = patient.conversation.conversation;
    patience = patient.conversation.patience;
    due = false;
    idle = counted (patient.conversation.idle + patient.conversation.patience.pause);
  };
  steps = patient.steps;
  limit = patient.limit;
}

abbrev pub pause_in : {E : Type 0} → Next E → Option ℕ
pause_in (Do op) = None
pause_in (Wait time) = Some time
pause_in (End end) = None

abbrev pub rested_if : {C : Type 0} → Option ℕ → Patient C → Patient C
rested_if None patient = patient
rested_if (Some time) patient = rested patient

-- how long nothing is to be made after the reply
abbrev pub pause_after : {C E : Type 0} → (C → Next E) → (C → Reply → C) → Patient C → Reply → Option ℕ
pause_after wants after patient reply = pause_in (wants_of wants (replied wants after patient reply))

-- what it is after that
abbrev pub advanced : {C E : Type 0} → (C → Next E) → (C → Reply → C) → Patient C → Reply → Patient C
advanced wants after patient reply = rested_if (pause_after wants after patient reply) (replied wants after patient reply)

-- ---- on confirmed pages

-- a conversation that needs pages
pub record Paged (C E : Type 0) : Type 0 where
  pub wants : C → Next E
  pub after : C → Reply → C
  pub addressing : C → Option PageAddressing
  pub page : C → Option ℕ
  pub may_lack : Bool
  pub lacking : C → ℕ → C

abbrev pub wants_on : {C E : Type 0} → Paged C E → OnPage C → Next E
wants_on paged on = next_on (chosen (paged.addressing on.conversation)) on.selection (paged.page on.conversation) (paged.wants on.conversation)

abbrev pub after_on : {C E : Type 0} → Paged C E → OnPage C → Reply → OnPage C
after_on paged on reply =
    on_after paged.after paged.lacking paged.may_lack (chosen (paged.addressing on.conversation)) (paged.page on.conversation) on reply
