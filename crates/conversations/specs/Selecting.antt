-- A conversation whose operations need pages, over a bus where pages are selected first. (docs/bus.md, "Confirmed pages"; this
-- project's own)
use Rattle.std.specs.Prelude.{◌≡◌, ◌⊎◌, ◌<◌, ℕ, ◌==◌, ◌&&◌, nat_lt, Bool, true, false, [], ◌∷◌, ◌++◌, Option, Some, None, if◌then◌else◌}
use Rattle.bus_model.specs.declared.operation.Op.{Op}
use Rattle.bus_model.specs.declared.operation.Op.TheVariants.{Fetch, Store}
use Rattle.bus_model.specs.declared.operation.Reply.{Reply}
use Rattle.bus_model.specs.declared.operation.Reply.TheVariants.{Bytes, Done, Refused}
use Rattle.bus_model.specs.declared.operation.Step.{Step}
use Rattle.bus_model.specs.Operations.{Answers}
use Rattle.conversations.specs.declared.event.Event.TheVariants.{Made, Waited, Lacked, Asked}
use Rattle.conversations.specs.declared.next.Next.{Next}
use Rattle.conversations.specs.declared.next.Next.TheVariants.{Do, Wait, End}
use Rattle.conversations.specs.declared.on_page.OnPage.{OnPage}
use Rattle.conversations.specs.Events.{Events, steps_of}
use Rattle.conversations.specs.Pauses.{is_refused}
use Rattle.paged_memory.specs.declared.page_addressing.PageAddressing.{PageAddressing}
use Rattle.paged_memory.specs.declared.page_addressing.PageAddressing.TheVariants.{BankAndPage}
use Rattle.paged_memory.specs.declared.page_addressing.KnownPage.{KnownPage}
use Rattle.paged_memory.specs.declared.page_addressing.KnownPage.TheVariants.{Unknown, Open}
use Rattle.paged_memory.specs.KnownPages.{Tells, is_awaited, is_known, missing_page, selection_read, selection_told, wanted}
use Rattle.paged_memory.specs.PageAddressing.{History, is_open, is_page, is_page_confirmed, may_select, read_selection, selection}

-- ---- how pages are selected, which may be learned on the way

-- while it isn't known, no page is needed
abbrev pub chosen : Option PageAddressing → PageAddressing
chosen None = BankAndPage
chosen (Some addressing) = addressing

-- this holds of it, or of each while it isn't known
abbrev pub ByAddressing : Option PageAddressing → (PageAddressing → Type 0) → Type 0
ByAddressing None P = (addressing : PageAddressing) → P addressing
ByAddressing (Some addressing) P = P addressing

-- ---- what is believed of the selection after a refusal

-- the steps since the newest refusal
abbrev pub since_refusal : History → History
since_refusal [] = []
since_refusal (step ∷ before) = if is_refused step.reply then [] else step ∷ since_refusal before

-- the steps that tell which page is selected: all of them, or, for those who doubt, the ones since the newest refusal, since a module
-- that refused may have reset itself
abbrev pub trusted : Bool → History → History
trusted false history = history
trusted true history = since_refusal history

-- ---- what is wanted, and what is kept

-- what comes first where an operation is wanted that needs a page, or none
abbrev pub next_on : {E : Type 0} → PageAddressing → KnownPage → Option ℕ → Next E → Next E
next_on addressing selected page (Do op) = Do (wanted addressing selected page op)
next_on addressing selected page (Wait time) = Wait time
next_on addressing selected page (End end) = End end

-- the page of a selection, if it may be lacked and was accepted
abbrev pub taken_by : Bool → ℕ → Reply → Option ℕ
taken_by may page (Bytes bytes) = None
taken_by may page Done = if may then Some page else None
taken_by may page Refused = None

-- once the selection was read back, it is kept no longer
abbrev pub taken_after : Option ℕ → Reply → Option ℕ
taken_after taken (Bytes bytes) = None
taken_after taken Done = taken
taken_after taken Refused = taken

-- the page that is needed and was selected, if page 00h shows in its place
abbrev pub lacked_by : Option ℕ → Option ℕ → Bool → Option ℕ
lacked_by (Some page) (Some taken) shows = if shows && (nat_lt 0 page && page == taken) then Some page else None
lacked_by (Some page) None shows = None
lacked_by None taken shows = None

abbrev pub lacked : PageAddressing → Option ℕ → Option ℕ → Reply → Option ℕ
lacked addressing page taken (Bytes bytes) = lacked_by page taken (is_known (selection_read addressing bytes.items) 0)
lacked addressing page taken Done = None
lacked addressing page taken Refused = None

-- ---- what a reply makes of it

-- it is told if a page isn't there
abbrev pub told_lacked : {C : Type 0} → (C → ℕ → C) → Option ℕ → C → C
told_lacked lacking None conversation = conversation
told_lacked lacking (Some page) conversation = lacking conversation page

-- the selection of a page that is missing, or an operation of the conversation within
abbrev pub after_missing : {C : Type 0} → (C → Reply → C) → Bool → Option ℕ → OnPage C → Reply → OnPage C
after_missing after may None on reply = record { conversation = after on.conversation reply; selection = on.selection; taken = None; doubts = on.doubts }
after_missing after may (Some page) on reply = record { conversation = on.conversation; selection = Open; taken = taken_by may page reply; doubts = on.doubts }

abbrev pub after_trusting : {C : Type 0} → (C → Reply → C) → (C → ℕ → C) → Bool → PageAddressing → Option ℕ → OnPage C → Reply → OnPage C
after_trusting after lacking may addressing page on reply =
    if is_awaited on.selection then record {
      conversation = told_lacked lacking (lacked addressing page on.taken reply) on.conversation;
      selection = selection_told addressing on.selection reply;
      taken = taken_after on.taken reply;
      doubts = on.doubts;
    }
    else after_missing after may (missing_page on.selection page) on reply

-- nothing is known of the selection after a refusal, for those who doubt
abbrev pub doubting : {C : Type 0} → OnPage C → Reply → OnPage C
doubting on reply =
    if on.doubts && is_refused reply then record { conversation = on.conversation; selection = Unknown; taken = None; doubts = on.doubts } else on

abbrev pub on_after : {C : Type 0} → (C → Reply → C) → (C → ℕ → C) → Bool → PageAddressing → Option ℕ → OnPage C → Reply → OnPage C
on_after after lacking may addressing page on reply = doubting (after_trusting after lacking may addressing page on reply) reply

-- ---- what the steps say

abbrev pub IsFetch : Op → Type 0
IsFetch (Fetch dev offset count) = Unit {0}
IsFetch (Store dev offset bytes) = ⊥

-- the selection of the page was accepted, and nothing was stored since
abbrev pub WasTaken : PageAddressing → ℕ → History → Type 0
WasTaken addressing page [] = ⊥
WasTaken addressing page (step ∷ before) = ((step.op ≡ selection addressing page) × (step.reply ≡ Done)) ⊎ (IsFetch step.op × WasTaken addressing page before)

-- where a page may be lacked, that is kept which was taken last, until it is read back
pub record KeepsTaken (may : Bool) (addressing : PageAddressing) (taken : Option ℕ) (history : History) : Type 0 where
  pub was : (page : ℕ) → taken ≡ Some page → (may ≡ true) × WasTaken addressing page history
  pub is : may ≡ true → is_open addressing history ≡ true → (page : ℕ) → WasTaken addressing page history → taken ≡ Some page

-- what is kept is what the steps say
abbrev pub Knows : Bool → Option PageAddressing → KnownPage → Option ℕ → History → Type 0
Knows may by selected taken history =
    (by ≡ None → selected ≡ Unknown) × ByAddressing by (λ addressing. Tells addressing selected history × KeepsTaken may addressing taken history)

-- the page, if one is needed, is confirmed
abbrev pub is_on : PageAddressing → Option ℕ → History → Bool
is_on addressing None before = true
is_on addressing (Some page) before = is_page_confirmed addressing page before

-- which page is selected is asked for if that is open, and else a page is asked for that is needed and not confirmed
abbrev pub IsSelecting : PageAddressing → Option ℕ → Op → History → Type 0
IsSelecting addressing needed op before =
    ((is_open addressing before ≡ true) × (op ≡ read_selection addressing))
    ⊎ ((is_open addressing before ≡ false) × ((page : ℕ) × (needed ≡ Some page) × (is_page_confirmed addressing page before ≡ false) × (op ≡ selection addressing page)))

-- page 00h of bank 0 is read back in place of another, whose selection was accepted
pub record ShowsNone (addressing : PageAddressing) (page : ℕ) (step : Step) (before : History) : Type 0 where
  pub awaited : is_open addressing before ≡ true
  pub reads : step.op ≡ read_selection addressing
  pub shows : is_page addressing 0 step.reply ≡ true
  pub other : 0 < page
  pub taken : WasTaken addressing page before

-- a page that is lacked isn't passed over
abbrev pub LacksNone : Bool → PageAddressing → Option ℕ → Step → History → Type 0
LacksNone may addressing needed step before = may ≡ true → (page : ℕ) → needed ≡ Some page → ¬ (ShowsNone addressing page step before)

-- the second are the first with selections added, none of them needless; each transaction of the first stands on the page that it
-- needs, and each page that may be lacked and is, is told as such
abbrev pub AddsSelections : Bool → Bool → PageAddressing → (Events → Option ℕ) → Events → Events → Type 0
AddsSelections doubts may addressing needs own [] = own ≡ []
AddsSelections doubts may addressing needs own (Made step ∷ before) =
    (IsSelecting addressing (needs own) step.op (trusted doubts (steps_of before)) × LacksNone may addressing (needs own) step (trusted doubts (steps_of before)) × Answers step.op step.reply × AddsSelections doubts may addressing needs own before)
    ⊎ (((earlier : Events) × (own ≡ Made step ∷ earlier) × (is_open addressing (trusted doubts (steps_of before)) ≡ false) × (is_on addressing (needs earlier) (trusted doubts (steps_of before)) ≡ true) × AddsSelections doubts may addressing needs earlier before)
    ⊎ ((page : ℕ) × (earlier : Events) × (own ≡ Lacked page ∷ earlier) × (may ≡ true) × (needs earlier ≡ Some page) × ShowsNone addressing page step (trusted doubts (steps_of before)) × Answers step.op step.reply × AddsSelections doubts may addressing needs earlier before))
AddsSelections doubts may addressing needs own (Waited time ∷ before) =
    (earlier : Events) × (own ≡ Waited time ∷ earlier) × AddsSelections doubts may addressing needs earlier before
AddsSelections doubts may addressing needs own (Lacked page ∷ before) = ⊥
AddsSelections doubts may addressing needs own (Asked number ∷ before) =
    (earlier : Events) × (own ≡ Asked number ∷ earlier) × AddsSelections doubts may addressing needs earlier before

-- the events are such, and the conversation within knows of its own of them
abbrev pub WithSelections : Bool → Bool → (Events → Option PageAddressing) → (Events → Option ℕ) → (Events → Type 0) → Events → Type 0
WithSelections doubts may addressed needs P events =
    (own : Events) × ByAddressing (addressed own) (λ addressing. AddsSelections doubts may addressing needs own events) × P own

-- ---- what follows from that for those who doubt

-- after each refusal the page was read back, and the selection was left alone since
abbrev pub IsConfirmedSince : PageAddressing → ℕ → History → Type 0
IsConfirmedSince addressing page before =
    (since earlier : History) (refusal : Step) → before ≡ since ++ refusal ∷ earlier → refusal.reply ≡ Refused → is_page_confirmed addressing page since ≡ true

-- so it is at each store but for selections, whose page is the one that is needed after the own events
abbrev pub ConfirmsStores : Bool → PageAddressing → (Events → Option ℕ) → Events → Type 0
ConfirmsStores may addressing needs [] = Unit {0}
ConfirmsStores may addressing needs (Made step ∷ before) =
    (¬ (IsFetch step.op) → may_select addressing step.op ≡ false →
    (own : Events) × AddsSelections true may addressing needs own before × ((page : ℕ) → needs own ≡ Some page → IsConfirmedSince addressing page (steps_of before)))
    × ConfirmsStores may addressing needs before
ConfirmsStores may addressing needs (Waited time ∷ before) = ConfirmsStores may addressing needs before
ConfirmsStores may addressing needs (Lacked page ∷ before) = ConfirmsStores may addressing needs before
ConfirmsStores may addressing needs (Asked number ∷ before) = ConfirmsStores may addressing needs before
