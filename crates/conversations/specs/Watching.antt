-- A conversation that looks at the module's state after each wait, before its next operation, and ends where that isn't ModuleReady. A
-- look that is refused is told as a refusal of that operation. (docs/bus.md, "Conversations"; OIF-CMIS-05.0, Module State Machine)
use Rattle.std.specs.Prelude.{◌≡◌, ◌⊎◌, ◌||◌, ℕ, List, not, Bool, true, false, [], ◌∷◌, Option, Some, None, slice_index, if◌then◌else◌}
use Rattle.bus_model.specs.declared.operation.Op.{Op}
use Rattle.bus_model.specs.declared.operation.Op.TheVariants.{Fetch}
use Rattle.bus_model.specs.declared.operation.Reply.{Reply}
use Rattle.bus_model.specs.declared.operation.Reply.TheVariants.{Bytes, Done, Refused}
use Rattle.bus_model.specs.declared.operation.Step.{Step}
use Rattle.conversations.specs.declared.event.Event.TheVariants.{Made, Waited, Lacked, Asked}
use Rattle.conversations.specs.declared.next.Next.{Next}
use Rattle.conversations.specs.declared.next.Next.TheVariants.{Do, Wait, End}
use Rattle.conversations.specs.Events.{Events, made, steps_of}
use Rattle.conversations.specs.Pauses.{is_same_fetch}
use Rattle.conversations.specs.declared.watching.Look.{Look}
use Rattle.conversations.specs.declared.watching.Look.TheVariants.{Seen, Due, Left}
use Rattle.conversations.specs.declared.watching.Watched.{Watched}
use Rattle.conversations.specs.declared.watching.Watched.TheVariants as watched
use Rattle.conversations.specs.declared.watching.Watching.{Watching}
use Rattle.field_tables.specs.declared.field.Field.TheVariants as fields
use Rattle.field_tables.specs.declared.table.cmis.CmisField.TheVariants as cmis
use Rattle.field_tables.specs.declared.field.Register.TheVariants as registers
use Rattle.field_tables.specs.FieldValues.{number_in_byte}
use Rattle.field_tables.specs.Registers.{byte_count, first_byte, span_of}
use Rattle.module_states.specs.declared.state.ModuleState.{ModuleState}
use Rattle.module_states.specs.declared.state.ModuleState.TheVariants.{Ready}
use Rattle.module_states.specs.Codes.{state_at}

-- ---- a look

-- the byte with the module's state is read
abbrev pub read_state : Op
read_state = Fetch (span_of registers.GlobalStatus).dev (first_byte registers.GlobalStatus) (byte_count registers.GlobalStatus)

-- the operation reads the state itself
abbrev pub is_look : Op → Bool
is_look op = is_same_fetch read_state op

-- the code of the state in the byte that was read
abbrev pub state_code : List ℕ → ℕ
state_code bytes = number_in_byte (fields.Cmis cmis.ModuleState) (slice_index bytes 0)

-- the code that a reply to a look shows
abbrev pub shown : Reply → Option ℕ
shown (Bytes bytes) = Some (state_code bytes.items)
shown Done = None
shown Refused = None

abbrev pub look_by : ℕ → Option ModuleState → Look
look_by code (Some Ready) = Seen
look_by code state = Left code

-- where that leaves the conversation
abbrev pub look_at : ℕ → Look
look_at code = look_by code (state_at code)

-- ---- what is wanted, and what is kept

-- where the conversation within wants the operation
abbrev pub next_at : {E : Type 0} → Look → Op → Next (Watched E)
next_at Seen op = Do op
next_at Due op = if is_look op then Do op else Do read_state
next_at (Left code) op = End (watched.Left code)

abbrev pub next_watching : {E : Type 0} → Look → Next E → Next (Watched E)
next_watching look (Do op) = next_at look op
next_watching look (Wait time) = Wait time
next_watching look (End end) = End (watched.InOrder end)

-- a look comes next
abbrev pub is_looking : {E : Type 0} → Look → Next E → Bool
is_looking Due (Do op) = not (is_look op)
is_looking Due (Wait time) = false
is_looking Due (End end) = false
is_looking Seen wanted = false
is_looking (Left code) wanted = false

-- by what a look shows; one that was refused is told as a refusal
abbrev pub looked : {C : Type 0} → (C → Reply → C) → Watching C → Option ℕ → Watching C
looked after it (Some code) = record { conversation = it.conversation; watches = it.watches; look = look_at code }
looked after it None = record { conversation = after it.conversation Refused; watches = it.watches; look = Seen }

-- what a reply makes of it
abbrev pub after_watching : {C E : Type 0} → (C → Next E) → (C → Reply → C) → Watching C → Reply → Watching C
after_watching wants after it reply =
    if is_looking it.look (wants it.conversation) then looked after it (shown reply)
    else record { conversation = after it.conversation reply; watches = it.watches; look = Seen }

-- a wait is over
abbrev pub look_after_wait : Bool → Look → Look
look_after_wait watches Seen = if watches then Due else Seen
look_after_wait watches Due = Due
look_after_wait watches (Left code) = Left code

-- ---- what the events say

-- the operation may be made at once
abbrev pub may_go : Look → Op → Bool
may_go Seen op = true
may_go Due op = is_look op
may_go (Left code) op = false

-- before this operation, and after these own events, a look showed that
abbrev pub IsLooked : Option ℕ → Op → Events → Events → Look → Option Op → Type 0
IsLooked (Some code) op earlier own look wanted = (own ≡ earlier) × (look ≡ look_at code) × (wanted ≡ Some op)
IsLooked None op earlier own look wanted = (own ≡ made op Refused ∷ earlier) × (look ≡ Seen)

-- the first are the own events of a conversation; the second are these with looks before operations, of which those that were refused
-- stand for refusals. After them this operation is wanted, or none
abbrev pub AddsLooks : Bool → Events → Events → Look → Option Op → Type 0
AddsLooks watches own [] look wanted = (own ≡ []) × (look ≡ Seen)
AddsLooks watches own (Made step ∷ before) look wanted =
    ((earlier : Events) × (was : Look) × (own ≡ Made step ∷ earlier) × AddsLooks watches earlier before was (Some step.op) × (may_go was step.op ≡ true) × (look ≡ Seen))
    ⊎ ((op : Op) × (earlier : Events) × (step.op ≡ read_state) × (is_look op ≡ false) × AddsLooks watches earlier before Due (Some op)
    × IsLooked (shown step.reply) op earlier own look wanted)
AddsLooks watches own (Waited time ∷ before) look wanted =
    (earlier : Events) × (was : Look) × (own ≡ Waited time ∷ earlier) × AddsLooks watches earlier before was None × (look ≡ look_after_wait watches was)
AddsLooks watches own (Lacked page ∷ before) look wanted = ⊥
AddsLooks watches own (Asked number ∷ before) look wanted =
    (earlier : Events) × (was_wanted : Option Op) × (own ≡ Asked number ∷ earlier) × AddsLooks watches earlier before look was_wanted

-- of its own events P holds
abbrev pub WithLooks : Bool → Look → Option Op → (Events → Type 0) → Events → Type 0
WithLooks watches look wanted P events = (own : Events) × AddsLooks watches own events look wanted × P own

abbrev pub GoesOnWatching : Bool → (Events → Type 0) → Events → Type 0
GoesOnWatching watches GoesOn events = (look : Look) × (op : Op) × WithLooks watches look (Some op) GoesOn events

-- it ended as it may; or the module was shown in another state, in the middle
abbrev pub EndsWatching : {E : Type 0} → Bool → (Events → Type 0) → (Events → E → Type 0) → Events → Watched E → Type 0
EndsWatching watches GoesOn Ends events (watched.InOrder end) = (look : Look) × WithLooks watches look None (λ own. Ends own end) events
EndsWatching watches GoesOn Ends events (watched.Left code) = (op : Op) × WithLooks watches (Left code) (Some op) GoesOn events

-- ---- what follows from that for any events

-- a wait is the newest of them, but for what the caller said
abbrev pub was_wait : Events → Bool
was_wait [] = false
was_wait (Made step ∷ before) = false
was_wait (Waited time ∷ before) = true
was_wait (Lacked page ∷ before) = was_wait before
was_wait (Asked number ∷ before) = was_wait before

-- the first transaction after a wait reads the state
abbrev pub EachLooks : Events → Type 0
EachLooks [] = Unit {0}
EachLooks (Made step ∷ before) = (is_look step.op || not (was_wait before) ≡ true) × EachLooks before
EachLooks (Waited time ∷ before) = EachLooks before
EachLooks (Lacked page ∷ before) = EachLooks before
EachLooks (Asked number ∷ before) = EachLooks before

-- the newest transaction read the state, and showed this code, which isn't that of ModuleReady
pub record ShowsLeft (code : ℕ) (events : Events) : Type 0 where
  pub newest : Step
  pub before : List Step
  pub split : steps_of events ≡ newest ∷ before
  pub reads : newest.op ≡ read_state
  pub shows : shown newest.reply ≡ Some code
  pub left : look_at code ≡ Left code
