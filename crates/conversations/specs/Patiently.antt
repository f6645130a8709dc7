-- A conversation with pauses, of so many operations at most: what it wants, what a reply and a pause make of it, and what its events
-- show. (docs/bus.md, "Conversations"; this project's own)
use Rattle.std.specs.Prelude.{◌≡◌, ◌≤◌, ◌<◌, ◌+◌, ℕ, length, false}
use Rattle.bus_model.specs.declared.operation.Reply.{Reply}
use Rattle.conversations.specs.declared.next.Next.{Next}
use Rattle.conversations.specs.declared.pausing.Patience.{Patience}
use Rattle.conversations.specs.declared.pausing.Pausing.{Pausing}
use Rattle.conversations.specs.declared.pausing.Timed.{Timed}
use Rattle.conversations.specs.declared.within.Spent.{Spent}
use Rattle.conversations.specs.declared.within.Within.{Within}
use Rattle.conversations.specs.Budgets.{HasSpent, next_within}
use Rattle.conversations.specs.Events.{Events, steps_of}
use Rattle.conversations.specs.Pauses.{EndsPausing, GoesOnPausing, WithPauses, after_pausing, counted, next_pausing}
use Rattle.conversations.specs.Wanted.{op_of}

abbrev pub Patient : Type 0 → Type 0
Patient C = Within (Pausing C)

abbrev pub wants_patiently : {C E : Type 0} → (C → Next E) → Patient C → Next (Spent (Timed E))
wants_patiently wants it =
    let pausing = it.conversation in
    next_within it.steps it.limit (next_pausing pausing.due pausing.idle pausing.patience (wants pausing.conversation))

abbrev pub after_patiently : {C E : Type 0} → (C → Next E) → (C → Reply → C) → Patient C → Reply → Patient C
after_patiently wants after it reply = record { conversation = after_pausing wants after it.conversation reply; steps = it.steps + 1; limit = it.limit }

-- nothing was made
abbrev pub begun_patiently : {C : Type 0} → C → Patience → ℕ → Patient C
begun_patiently conversation patience limit = record {
  conversation = record { conversation = conversation; patience = patience; due = false; idle = 0 };
  steps = 0;
  limit = limit;
}

-- the pause that was due is over
abbrev pub paused : {C : Type 0} → Patient C → Patient C
paused it =
    let pausing = it.conversation in
    record it { conversation = record pausing { due = false; idle = counted (pausing.idle + pausing.patience.pause) } }

-- it was told these events, the newest first
abbrev pub ToldPatiently : {C E : Type 0} → (C → Next E) → (Events → C → Type 0) → Events → Patient C → Type 0
ToldPatiently wants told events it =
    let pausing = it.conversation in
    WithPauses pausing.patience (λ own. told own pausing.conversation) (op_of (wants pausing.conversation)) pausing.due pausing.idle events
    × (length (steps_of events) ≡ it.steps) × (it.steps ≤ it.limit)

-- an operation is wanted after these events
abbrev pub GoesOnPatiently : {C : Type 0} → (Events → Type 0) → Patient C → Events → Type 0
GoesOnPatiently goes_on it events = GoesOnPausing it.conversation.patience goes_on events × (length (steps_of events) < it.limit)

-- it ended so after these events: as it may, out of patience, or after as many operations as may be
abbrev pub EndsPatiently : {C E : Type 0} → (Events → Type 0) → (Events → E → Type 0) → Patient C → Events → Spent (Timed E) → Type 0
EndsPatiently goes_on ends it events spent =
    HasSpent it.limit (GoesOnPausing it.conversation.patience goes_on) (EndsPausing it.conversation.patience goes_on ends) events spent
