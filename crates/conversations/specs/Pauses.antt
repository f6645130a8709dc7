-- A conversation that pauses where a transaction was fruitless, and ends where all were so for too long. A transaction is fruitless if
-- it was refused, if the same bytes are fetched again next, or if the page selection was read and is stored again next.
-- (docs/bus.md, "Conversations"; this project's own)
use Rattle.std.specs.Prelude.{◌≡◌, ◌≤◌, ◌<◌, ◌⊎◌, ◌+◌, ◌-◌, ◌^◌, ℕ, min, nat_lt, ◌==◌, ◌&&◌, ◌||◌, Bool, true, false, [], ◌∷◌, Option, Some, None, if◌then◌else◌}
use Rattle.bus_model.specs.declared.device.Dev.{Dev}
use Rattle.bus_model.specs.declared.device.Dev.TheVariants.{A0, A2}
use Rattle.bus_model.specs.declared.operation.Op.{Op}
use Rattle.bus_model.specs.declared.operation.Op.TheVariants.{Fetch, Store}
use Rattle.bus_model.specs.declared.operation.Reply.{Reply}
use Rattle.bus_model.specs.declared.operation.Reply.TheVariants.{Bytes, Done, Refused}
use Rattle.bus_model.specs.SameOperation.{same_device}
use Rattle.conversations.specs.declared.event.Event.TheVariants.{Made, Waited, Lacked, Asked}
use Rattle.conversations.specs.declared.next.Next.{Next}
use Rattle.conversations.specs.declared.next.Next.TheVariants.{Do, Wait, End}
use Rattle.conversations.specs.declared.pausing.Patience.{Patience}
use Rattle.conversations.specs.declared.pausing.Pausing.{Pausing}
use Rattle.conversations.specs.declared.pausing.Timed.{Timed}
use Rattle.conversations.specs.declared.pausing.Timed.TheVariants.{InTime, Overdue}
use Rattle.conversations.specs.Events.{Events}
use Rattle.paged_memory.specs.PageAddressing.{History}
use Rattle.conversations.specs.Wanted.{op_of}

-- ---- what is fruitless

abbrev pub is_refused : Reply → Bool
is_refused (Bytes bytes) = false
is_refused Done = false
is_refused Refused = true

-- both fetch the same bytes
abbrev pub is_same_fetch : Op → Op → Bool
is_same_fetch (Fetch dev offset count) (Fetch dev' offset' count') = same_device dev dev' && (offset == offset' && count == count')
is_same_fetch (Fetch dev offset count) (Store dev' offset' bytes) = false
is_same_fetch (Store dev offset bytes) other = false

-- one of the two bytes of the page selection is there
abbrev pub is_selection_at : Dev → ℕ → Bool
is_selection_at A0 offset = offset == 126 || offset == 127
is_selection_at A2 offset = false

-- the operation begins at the page selection
abbrev pub is_selecting : Op → Bool
is_selecting (Fetch dev offset count) = is_selection_at dev offset
is_selecting (Store dev offset bytes) = is_selection_at dev offset

-- the page selection was read, and is stored next
abbrev pub selects_again : Op → Op → Bool
selects_again (Fetch dev offset count) (Fetch dev' offset' count') = false
selects_again (Fetch dev offset count) (Store dev' offset' bytes) = is_selection_at dev offset && is_selection_at dev' offset'
selects_again (Store dev offset bytes) other = false

abbrev pub is_repeated : Op → Option Op → Bool
is_repeated op None = false
is_repeated op (Some next) = is_same_fetch op next || selects_again op next

-- the transaction, if this operation comes next, or none
abbrev pub is_fruitless : Op → Reply → Option Op → Bool
is_fruitless op reply next = is_refused reply || is_repeated op next

-- ---- what is wanted, and what is kept

abbrev pub at_least : ℕ → ℕ → ℕ
at_least pause time = if nat_lt time pause then pause else time

-- as far as a number of 32 bits counts
abbrev pub counted : ℕ → ℕ
counted time = min time (2 ^ 32 - 1)

-- where a pause is due
abbrev pub next_due : {E : Type 0} → ℕ → Patience → Next (Timed E)
next_due idle patience = if nat_lt patience.limit idle then End Overdue else Wait patience.pause

abbrev pub next_pausing : {E : Type 0} → Bool → ℕ → Patience → Next E → Next (Timed E)
next_pausing due idle patience (Do op) = if due then next_due idle patience else Do op
next_pausing due idle patience (Wait time) = Wait (at_least patience.pause time)
next_pausing due idle patience (End end) = End (InTime end)

abbrev pub is_fruitless_in : Option Op → Reply → Option Op → Bool
is_fruitless_in None reply next = false
is_fruitless_in (Some op) reply next = is_fruitless op reply next

abbrev pub is_selecting_in : Option Op → Bool
is_selecting_in None = false
is_selecting_in (Some op) = is_selecting op

-- for how long nothing was done, after a transaction that was fruitless or wasn't
abbrev pub idle_after : Bool → Bool → ℕ → ℕ
idle_after fruitless selecting idle = if fruitless || selecting then idle else 0

-- after what was wanted, with what is wanted then
abbrev pub after_made : {C : Type 0} → Pausing C → C → Option Op → Bool → Pausing C
after_made pausing conversation asked fruitless = record {
  conversation = conversation;
  patience = pausing.patience;
  due = fruitless;
  idle = idle_after fruitless (is_selecting_in asked) pausing.idle;
}

-- what a reply makes of the conversation within, and of what is kept
abbrev pub after_pausing : {C E : Type 0} → (C → Next E) → (C → Reply → C) → Pausing C → Reply → Pausing C
after_pausing wants after pausing reply =
    after_made pausing (after pausing.conversation reply) (op_of (wants pausing.conversation))
    (is_fruitless_in (op_of (wants pausing.conversation)) reply (op_of (wants (after pausing.conversation reply))))

-- ---- what the events say

-- the first are the own events of a conversation, the second are these with a pause after each fruitless transaction, unless it waits
-- itself. After them this operation is wanted, or none; a pause is due before it, or not; and the pauses since the newest transaction
-- that was neither fruitless nor for the page selection last so long
abbrev pub AddsPauses : Patience → Events → Events → Option Op → Bool → ℕ → Type 0
AddsPauses patience own [] wanted due idle = (own ≡ []) × (due ≡ false) × (idle ≡ 0)
AddsPauses patience own (Made step ∷ before) wanted due idle =
    (earlier : Events) × (was : ℕ) × (own ≡ Made step ∷ earlier) × AddsPauses patience earlier before (Some step.op) false was
    × (due ≡ is_fruitless step.op step.reply wanted) × (idle ≡ idle_after due (is_selecting step.op) was)
AddsPauses patience own (Waited time ∷ before) wanted due idle =
    -- a pause that is due
    ((op : Op) × (was : ℕ) × (wanted ≡ Some op) × AddsPauses patience own before wanted true was × (was ≤ patience.limit)
    × (time ≡ patience.pause) × (due ≡ false) × (idle ≡ counted (was + time)))
    -- a wait of its own, which is no shorter
    ⊎ ((earlier : Events) × (asked : ℕ) × (was : Bool) × (own ≡ Waited asked ∷ earlier) × AddsPauses patience earlier before None was idle
    × (time ≡ at_least patience.pause asked) × (due ≡ false))
AddsPauses patience own (Lacked page ∷ before) wanted due idle = ⊥
-- what the caller says leaves a pause due
AddsPauses patience own (Asked number ∷ before) wanted due idle =
    (earlier : Events) × (earlier_wanted : Option Op) × (own ≡ Asked number ∷ earlier) × AddsPauses patience earlier before earlier_wanted due idle

-- of its own events P holds
abbrev pub WithPauses : Patience → (Events → Type 0) → Option Op → Bool → ℕ → Events → Type 0
WithPauses patience P wanted due idle events = (own : Events) × AddsPauses patience own events wanted due idle × P own

-- the next operation comes at once
abbrev pub GoesOnPausing : Patience → (Events → Type 0) → Events → Type 0
GoesOnPausing patience GoesOn events = (op : Op) × (idle : ℕ) × WithPauses patience GoesOn (Some op) false idle events

-- it ended as it may; or a pause is due in the middle, and those since something was done last for longer than may be
abbrev pub EndsPausing : {E : Type 0} → Patience → (Events → Type 0) → (Events → E → Type 0) → Events → Timed E → Type 0
EndsPausing patience GoesOn Ends events (InTime end) = (due : Bool) × (idle : ℕ) × WithPauses patience (λ own. Ends own end) None due idle events
EndsPausing patience GoesOn Ends events Overdue = (op : Op) × (idle : ℕ) × (patience.limit < idle) × WithPauses patience GoesOn (Some op) true idle events

-- ---- what follows from that for any events

-- the newest transaction was refused, and nothing was waited for since
abbrev pub was_refused : Events → Bool
was_refused [] = false
was_refused (Made step ∷ before) = is_refused step.reply
was_refused (Waited time ∷ before) = false
was_refused (Lacked page ∷ before) = was_refused before
was_refused (Asked number ∷ before) = was_refused before

-- the operation may not come next without a wait
abbrev pub must_wait : Op → Events → Bool
must_wait op [] = false
must_wait op (Made step ∷ before) = is_fruitless step.op step.reply (Some op)
must_wait op (Waited time ∷ before) = false
must_wait op (Lacked page ∷ before) = must_wait op before
must_wait op (Asked number ∷ before) = was_refused before

-- between two transactions of which the first was fruitless there is a wait, and no wait is shorter than the pause
abbrev pub AreSpaced : ℕ → Events → Type 0
AreSpaced pause [] = Unit {0}
AreSpaced pause (Made step ∷ before) = (must_wait step.op before ≡ false) × AreSpaced pause before
AreSpaced pause (Waited time ∷ before) = (pause ≤ time) × AreSpaced pause before
AreSpaced pause (Lacked page ∷ before) = AreSpaced pause before
AreSpaced pause (Asked number ∷ before) = AreSpaced pause before

-- one pause for each fruitless transaction since the newest that was neither that nor for the page selection
abbrev pub paused_for : ℕ → Option Op → History → ℕ
paused_for pause next [] = 0
paused_for pause next (step ∷ before) =
    if is_fruitless step.op step.reply next then pause + paused_for pause (Some step.op) before
    else (if is_selecting step.op then paused_for pause (Some step.op) before else 0)

-- transactions, and nothing else
abbrev pub AreMade : Events → Type 0
AreMade [] = Unit {0}
AreMade (Made step ∷ before) = AreMade before
AreMade (Waited time ∷ before) = ⊥
AreMade (Lacked page ∷ before) = ⊥
AreMade (Asked number ∷ before) = ⊥
