-- A delivery that takes a reply to what it wanted was told one event more.
use Rattle.std.proofs.Common.{◌≡◌, ℕ, ◌+◌, ◌≤◌, nat_lt, ◌==◌, ◌&&◌, ◌/◌, ◌%◌, Bool, true, false, [], ◌∷◌, length, Option, Some, None, refl, sym, subst, ap, ◌∙◌, arith}
use Rattle.std.specs.Prelude.{max, min}
use Rattle.std.proofs.lemmas.Bool.{cond_both, le-ltb}
use Rattle.arrayvec.specs.ArrayVec.{ArrayVec}
use Rattle.bus_model.specs.declared.device.Dev.TheVariants.{A0}
use Rattle.bus_model.specs.declared.operation.Op.{Op}
use Rattle.bus_model.specs.declared.operation.Op.TheVariants.{Fetch, Store}
use Rattle.bus_model.specs.declared.operation.Reply.{Reply}
use Rattle.bus_model.specs.Operations.{Answers}
use Rattle.command_block.specs.declared.attempt.Attempt.{Attempt}
use Rattle.command_block.specs.declared.attempt.Phase.{Phase}
use Rattle.command_block.specs.declared.attempt.Phase.TheVariants.{Delayed, Idle, Filling, Triggering, Resting, Awaiting, Counting, Reading, Checking}
use Rattle.command_block.specs.declared.attempt.Timing.{Timing}
use Rattle.command_block.specs.declared.delivery.Delivery.{Delivery}
use Rattle.command_block.specs.declared.message.Message.{Message}
use Rattle.command_block.specs.declared.outcome.Outcome.{Outcome}
use Rattle.command_block.specs.AttemptEvents.{IsTold}
use Rattle.command_block.specs.Deliveries.{Paged, Patient, ToldPaged, ToldPatient, attempt_in, delivery_after, delivery_wants, needed_after, paged_after, paged_wants, patient_after, patient_wants, terms_of}
use Rattle.command_block.specs.Operations.{head, piece, read_back}
use Rattle.command_block.specs.Phases.{filling, known, lacking, next_at, page_of, taken, wants, wants_by}
use Rattle.command_block.proofs.Delivered.{do_within}
use Rattle.conversations.specs.declared.event.Event.TheVariants.{Lacked}
use Rattle.conversations.specs.declared.next.Next.{Next}
use Rattle.conversations.specs.declared.next.Next.TheVariants.{Do}
use Rattle.conversations.specs.Events.{Events, made, steps_of}
use Rattle.conversations.specs.Pauses.{AddsPauses, idle_after, is_fruitless, is_fruitless_in, is_refused, is_selecting, is_selecting_in, next_pausing}
use Rattle.conversations.specs.Selecting.{Knows, WithSelections, after_missing, after_trusting, lacked, taken_after, told_lacked, trusted}
use Rattle.conversations.specs.Wanted.{op_of}
use Rattle.conversations.proofs.OnPageLaws.{after_doubt, asks, lacks_more, own_more, reads_back, selecting_more, selects_page, works_inner}
use Rattle.conversations.proofs.PausingLaws.{pausing_do}
use Rattle.conversations.proofs.RunTold.{do_fewer}
use Rattle.paged_memory.specs.declared.page_addressing.KnownPage.TheVariants.{Unknown}
use Rattle.paged_memory.specs.declared.page_addressing.PageAddressing.{PageAddressing}
use Rattle.paged_memory.specs.declared.page_addressing.PageAddressing.TheVariants.{BankAndPage, PageAlone}
use Rattle.paged_memory.specs.KnownPages.{IsApart, is_awaited, missing_page, selection_told, wanted}
use Rattle.paged_memory.specs.PageAddressing.{first_byte}
use Rattle.paged_memory.proofs.KnownPageLaws.{step_of}

-- ---- what an attempt wants is no selection

apart_store : (by : PageAddressing) (offset : ℕ) (bytes : ArrayVec ℕ) → 128 ≤ offset → IsApart by (Store A0 offset bytes)
apart_store BankAndPage offset bytes high = record {
  not_selecting = ap (λ (b : Bool). b && nat_lt (first_byte BankAndPage) (offset + length bytes.items)) (le-ltb offset 128 high);
  not_reading_back = refl;
}
apart_store PageAlone offset bytes high = record {
  not_selecting = ap (λ (b : Bool). b && nat_lt (first_byte PageAlone) (offset + length bytes.items)) (le-ltb offset 128 high);
  not_reading_back = refl;
}

apart_fetch : (by : PageAddressing) (offset count : ℕ) → (offset == 126) ≡ false → (126 == offset) ≡ false → (127 == offset) ≡ false → IsApart by (Fetch A0 offset count)
apart_fetch BankAndPage offset count one two three = record { not_selecting = refl; not_reading_back = ap (λ (b : Bool). b && (2 == count)) two }
apart_fetch PageAlone offset count one two three = record { not_selecting = refl; not_reading_back = ap (λ (b : Bool). b && (1 == count)) three }

apart_filling : (by : PageAddressing) (sent : Message) (at : ℕ) → IsApart by (filling sent at)
apart_filling by sent at =
    cond_both (nat_lt at (length sent.body.items)) (piece sent at) (head sent) (IsApart by)
    (λ e. apart_store by (136 + at) _ (omega arith)) (λ e. apart_store by 130 _ (omega arith))

apart_at : (by : PageAddressing) (sent : Message) (timing : Timing) (phase : Phase) (op : Op) → next_at sent timing phase ≡ Do op → IsApart by op
apart_at by sent timing Delayed op e = absurd cc
apart_at by sent timing Idle op e = let is : Fetch A0 37 1 ≡ op = cc in subst (IsApart by) is (apart_fetch by 37 1 refl refl refl)
apart_at by sent timing (Filling at) op e = let is : filling sent at ≡ op = cc in subst (IsApart by) is (apart_filling by sent at)
apart_at by sent timing Triggering op e = let is : Store A0 128 (record { items = sent.id / 256 ∷ sent.id % 256 ∷ [] }) ≡ op = cc in subst (IsApart by) is (apart_store by 128 _ (omega arith))
apart_at by sent timing Resting op e = absurd cc
apart_at by sent timing Awaiting op e = let is : Fetch A0 37 1 ≡ op = cc in subst (IsApart by) is (apart_fetch by 37 1 refl refl refl)
apart_at by sent timing Counting op e = let is : Fetch A0 134 2 ≡ op = cc in subst (IsApart by) is (apart_fetch by 134 2 refl refl refl)
apart_at by sent timing (Reading count check) op e =
    let is : Fetch A0 136 (max 1 (min count 120)) ≡ op = cc in subst (IsApart by) is (apart_fetch by 136 (max 1 (min count 120)) refl refl refl)
apart_at by sent timing (Checking at) op e =
    let is : read_back sent at ≡ op = cc in subst (IsApart by) is (apart_fetch by 136 (max 1 (min at (length sent.body.items))) refl refl refl)

apart_by : (by : PageAddressing) (attempt : Attempt) (outcome : Option Outcome) (op : Op) → wants_by attempt outcome ≡ Do op → IsApart by op
apart_by by attempt None op e = apart_at by attempt.message attempt.timing attempt.phase op e
apart_by by attempt (Some outcome) op e = absurd cc

-- ---- on its page

module _ (on : Paged) (events : Events) (op : Op) (reply : Reply) (answers : Answers op reply) (told : ToldPaged events on) where
  abbrev attempt : Attempt
  attempt = on.conversation

  abbrev page : Option ℕ
  page = page_of on.conversation

  abbrev needs : Events → Option ℕ
  needs own = needed_after on.conversation.message on.conversation.timing own

  abbrev Rest : Bool → Attempt → Type 0
  Rest doubts now =
      WithSelections doubts true (λ own. Some BankAndPage) (λ own. needed_after now.message now.timing own) (λ own. IsTold own now) (made op reply ∷ events)

  abbrev Kept : Paged → Type 0
  Kept new = Knows true (Some BankAndPage) new.selection new.taken (step_of op reply ∷ trusted new.doubts (steps_of events)) × Rest new.doubts new.conversation

  by_it : (own : Events) → IsTold own attempt → ◌≡◌ {A = Option PageAddressing} (Some BankAndPage) (Some BankAndPage)
  by_it own at = refl

  needed : (own : Events) → IsTold own attempt → page ≡ needs own
  needed own at = ap (λ (a : Attempt). page_of a) at.is

  takes_it : wants attempt ≡ Do op → (own : Events) → IsTold own attempt → IsTold (made op reply ∷ own) (taken attempt reply)
  takes_it does own at = record { is = ap (λ (a : Attempt). taken a reply) at.is; each = (ap (λ (a : Attempt). wants a) (sym at.is) ∙ does, answers, at.each) }

  lacks_it : (number : ℕ) → page ≡ Some number → (own : Events) → IsTold own attempt → IsTold (Lacked number ∷ own) (lacking attempt)
  lacks_it number needs_it own at = record { is = ap (λ (a : Attempt). lacking a) at.is; each = (ap (λ (a : Attempt). page_of a) (sym at.is) ∙ needs_it, at.each) }

  module _ (inner : Op) (does : wants attempt ≡ Do inner) (is : op ≡ wanted BankAndPage on.selection page inner) where
    apart : (by : PageAddressing) → IsApart by inner
    apart by = apart_by by attempt attempt.outcome inner does

    back_by : is_awaited on.selection ≡ true → (number : Option ℕ) → lacked BankAndPage page on.taken reply ≡ number
        → Kept (record { conversation = told_lacked (λ a n. lacking a) number attempt; selection = selection_told BankAndPage on.selection reply; taken = taken_after on.taken reply; doubts = on.doubts })
    back_by awaited None e =
        let reads = reads_back true on.selection on.taken page inner op (trusted on.doubts (steps_of events)) reply apart (Some BankAndPage) is told.0 awaited in
        (reads.knows, selecting_more on.doubts true (λ own. Some BankAndPage) needs (λ own. IsTold own attempt) op reply events page (Some BankAndPage) by_it needed reads.addressing reads.is reads.selecting (reads.none e) answers told.1)
    back_by awaited (Some number) e =
        let reads = reads_back true on.selection on.taken page inner op (trusted on.doubts (steps_of events)) reply apart (Some BankAndPage) is told.0 awaited in
        let lacks = reads.lacks number e in (
          reads.knows,
          lacks_more on.doubts true (λ own. Some BankAndPage) needs (λ own. IsTold own attempt) op reply events page (Some BankAndPage) by_it needed (λ own. IsTold own (lacking attempt)) reads.addressing reads.is number lacks.0 lacks.1 lacks.2 answers
              (lacks_it number lacks.1) (λ own at a f. f) told.1,
        )

    first_by : is_awaited on.selection ≡ false → (missing : Option ℕ) → missing_page on.selection page ≡ missing → Kept (after_missing (λ a r. taken a r) true missing on reply)
    first_by closed None e =
        let works = works_inner true on.selection on.taken page inner op (trusted on.doubts (steps_of events)) reply apart (Some BankAndPage) is told.0 closed e in (
          works.knows,
          own_more on.doubts true (λ own. Some BankAndPage) needs (λ own. IsTold own attempt) op reply events page (Some BankAndPage) by_it needed (λ own. IsTold own (taken attempt reply)) works.stands
              (takes_it (does ∙ ap (λ (o : Op). Do o) (sym works.same))) (λ own at a f. f) told.1,
        )
    first_by closed (Some number) e =
        let selects = selects_page true on.selection on.taken page inner op (trusted on.doubts (steps_of events)) reply apart (Some BankAndPage) is told.0 (λ none. absurd cc) closed number e in
        (selects.knows, selecting_more on.doubts true (λ own. Some BankAndPage) needs (λ own. IsTold own attempt) op reply events page (Some BankAndPage) by_it needed selects.addressing selects.is selects.selecting selects.none answers told.1)

    kept : Kept (after_trusting (λ a r. taken a r) (λ a n. lacking a) true BankAndPage page on reply)
    kept =
        cond_both (is_awaited on.selection)
        (record { conversation = told_lacked (λ a n. lacking a) (lacked BankAndPage page on.taken reply) attempt; selection = selection_told BankAndPage on.selection reply; taken = taken_after on.taken reply; doubts = on.doubts })
        (after_missing (λ a r. taken a r) true (missing_page on.selection page) on reply) Kept
        (λ e. back_by e (lacked BankAndPage page on.taken reply) refl) (λ e. first_by e (missing_page on.selection page) refl)

  told_paged : paged_wants on ≡ Do op → ToldPaged (made op reply ∷ events) (paged_after on reply)
  told_paged asks_op =
      let ask = asks BankAndPage on.selection page (wants attempt) op asks_op in
      after_doubt (λ a. true) (λ a. Some BankAndPage) Rest (after_trusting (λ a r. taken a r) (λ a n. lacking a) true BankAndPage page on reply) op reply (steps_of events) (kept ask.inner ask.wants ask.is)

-- ---- it is about the same message

abbrev About : Type 0
About = Bool × (Message × Timing)

abbrev about : Paged → About
about on = (on.doubts, (on.conversation.message, on.conversation.timing))

about_lacked : (on : Paged) (number : Option ℕ) (reply : Reply)
    → about (record { conversation = told_lacked (λ a n. lacking a) number on.conversation; selection = selection_told BankAndPage on.selection reply; taken = taken_after on.taken reply; doubts = on.doubts }) ≡ about on
about_lacked on None reply = refl
about_lacked on (Some number) reply = refl

about_missing : (on : Paged) (missing : Option ℕ) (reply : Reply) → about (after_missing (λ a r. taken a r) true missing on reply) ≡ about on
about_missing on None reply = refl
about_missing on (Some number) reply = refl

about_trusting : (on : Paged) (reply : Reply) → about (after_trusting (λ a r. taken a r) (λ a n. lacking a) true BankAndPage (page_of on.conversation) on reply) ≡ about on
about_trusting on reply =
    cond_both (is_awaited on.selection)
    (record { conversation = told_lacked (λ a n. lacking a) (lacked BankAndPage (page_of on.conversation) on.taken reply) on.conversation; selection = selection_told BankAndPage on.selection reply; taken = taken_after on.taken reply; doubts = on.doubts })
    (after_missing (λ a r. taken a r) true (missing_page on.selection (page_of on.conversation)) on reply) (λ (new : Paged). about new ≡ about on)
    (λ e. about_lacked on (lacked BankAndPage (page_of on.conversation) on.taken reply) reply) (λ e. about_missing on (missing_page on.selection (page_of on.conversation)) reply)

about_after : (on : Paged) (reply : Reply) → about (paged_after on reply) ≡ about on
about_after on reply =
    let mid = after_trusting (λ a r. taken a r) (λ a n. lacking a) true BankAndPage (page_of on.conversation) on reply in
    cond_both (mid.doubts && is_refused reply) (record { conversation = mid.conversation; selection = Unknown; taken = None; doubts = mid.doubts }) mid (λ (new : Paged). about new ≡ about on)
    (λ e. about_trusting on reply) (λ e. about_trusting on reply)

pub same_terms : (delivery : Delivery) (reply : Reply) → terms_of (delivery_after delivery reply).patient ≡ terms_of delivery.patient
same_terms delivery reply = ap (λ (a : About). (delivery.patient.limit, (delivery.patient.conversation.patience, a))) (about_after delivery.patient.conversation.conversation reply)

-- ---- with pauses, as many operations as may be

told_patient : (patient : Patient) (events : Events) (op : Op) (reply : Reply) → Answers op reply → ToldPatient events patient → patient_wants patient ≡ Do op → ToldPatient (made op reply ∷ events) (patient_after patient reply)
told_patient patient events op reply answers ((own, adds, told), counted, few) asks_op =
    let on = patient.conversation.conversation in
    let (does, fewer) = do_fewer patient.steps patient.limit (next_pausing patient.conversation.due patient.conversation.idle patient.conversation.patience (paged_wants on)) op asks_op in
    let (none_due, wants_op) = pausing_do patient.conversation.due patient.conversation.idle patient.conversation.patience (paged_wants on) op does in
    let op_is : op_of (paged_wants on) ≡ Some op = ap (λ (n : Next Outcome). op_of n) wants_op in
    let before : AddsPauses patient.conversation.patience own events (Some op) false patient.conversation.idle =
    subst (λ (due : Bool). AddsPauses patient.conversation.patience own events (Some op) due patient.conversation.idle) none_due
    (subst (λ (w : Option Op). AddsPauses patient.conversation.patience own events w patient.conversation.due patient.conversation.idle) op_is adds) in
    let next = op_of (paged_wants (paged_after on reply)) in
    let due : is_fruitless_in (op_of (paged_wants on)) reply next ≡ is_fruitless op reply next = ap (λ (o : Option Op). is_fruitless_in o reply next) op_is in
    let idle : idle_after (is_fruitless_in (op_of (paged_wants on)) reply next) (is_selecting_in (op_of (paged_wants on))) patient.conversation.idle
    ≡ idle_after (is_fruitless_in (op_of (paged_wants on)) reply next) (is_selecting op) patient.conversation.idle =
    ap (λ (o : Option Op). idle_after (is_fruitless_in (op_of (paged_wants on)) reply next) (is_selecting_in o) patient.conversation.idle) op_is in
    ((made op reply ∷ own, (own, patient.conversation.idle, refl, before, due, idle), told_paged on own op reply answers told wants_op), omega (arith, counted), omega (arith, fewer))

pub told_delivery : (delivery : Delivery) (events : Events) (op : Op) (reply : Reply) → Answers op reply → ToldPatient events delivery.patient → delivery_wants delivery ≡ Do op
    → ToldPatient (made op reply ∷ events) (delivery_after delivery reply).patient
told_delivery delivery events op reply answers told asks_op =
    told_patient delivery.patient events op reply answers told (do_within (known (attempt_in delivery.patient)) (patient_wants delivery.patient) op asks_op)
