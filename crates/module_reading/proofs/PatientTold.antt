-- A reading with pauses and in pieces: what it was told is what a reading of whole halves was told.
use Rattle.std.proofs.Common.{◌≡◌, ◌≤◌, ℕ, true, List, [], ◌∷◌, length, Option, sym, ap, subst, inl, inr, arith}
use Rattle.bus_model.specs.declared.operation.Op.{Op}
use Rattle.conversations.specs.declared.event.Event.TheVariants.{Asked, Lacked, Made, Waited}
use Rattle.conversations.specs.declared.next.Next.{Next}
use Rattle.conversations.specs.declared.on_page.OnPage.{OnPage}
use Rattle.conversations.specs.Events.{Events, steps_of}
use Rattle.conversations.specs.Pauses.{WithPauses}
use Rattle.conversations.specs.Pieces.{IsInPieces, Joins}
use Rattle.conversations.specs.Selecting.{Knows, chosen, next_on, trusted}
use Rattle.control_sets.specs.OutcomeAnswers.{most_steps}
use Rattle.control_sets.proofs.Turns.{steps_paused}
use Rattle.module_reading.specs.declared.halves.Halves.{Halves}
use Rattle.module_reading.specs.ImageReading.{IsTold, PatientReading, addressing, in_hand, page_by, wants}
use Rattle.module_reading.specs.ReadingRuns.{HasPatientOutcome, WithOwn}
use Rattle.module_reading.proofs.FetchTold.{outcome}

-- what is joined has no more steps
joined_few : (events own : Events) (half : Op) (part : List ℕ) → Joins events own half part → length (steps_of own) ≤ length (steps_of events)
joined_few [] own half part (none, empty) = subst (λ (e : Events). length (steps_of e) ≤ 0) (sym none) (omega arith)
joined_few (Made step ∷ before) own half part (inl (other, earlier, joins, is, none)) =
    let few = joined_few before earlier other [] joins in
    let same = ap (λ (e : Events). length (steps_of e)) is in
    omega (arith, few, same)
joined_few (Made step ∷ before) own half part (inr (inl (whole, earlier, read, joins, piece, refused, is, kept))) =
    let few = joined_few before earlier whole read joins in
    let same = ap (λ (e : Events). length (steps_of e)) is in
    omega (arith, few, same)
joined_few (Made step ∷ before) own half part (inr (inr (inl (read, bytes, joins, piece, gives, is, short)))) =
    let few = joined_few before own half read joins in
    omega (arith, few)
joined_few (Made step ∷ before) own half part (inr (inr (inr (whole, earlier, read, bytes, joins, piece, gives, all, is, none)))) =
    let few = joined_few before earlier whole read joins in
    let same = ap (λ (e : Events). length (steps_of e)) is in
    omega (arith, few, same)
joined_few (Waited time ∷ before) own half part (other, earlier, joins, is, none) =
    subst (λ (e : Events). length (steps_of e) ≤ length (steps_of before)) (sym is) (joined_few before earlier other [] joins)
joined_few (Lacked page ∷ before) own half part none = absurd none
joined_few (Asked number ∷ before) own half part (whole, earlier, read, joins, is, kept) =
    subst (λ (e : Events). length (steps_of e) ≤ length (steps_of before)) (sym is) (joined_few before earlier whole read joins)

-- what halves on confirmed pages want, and what they were told
abbrev pub wants_on : OnPage Halves → Next (Unit {0})
wants_on on = next_on (chosen (addressing on.conversation)) on.selection (page_by (in_hand on.conversation)) (wants on.conversation)

abbrev pub told_on : OnPage Halves → Events → Type 0
told_on on events =
    Knows true (addressing on.conversation) on.selection on.taken (trusted on.doubts (steps_of events)) × WithOwn on.doubts on.conversation.request (λ own. IsTold own on.conversation) events

pub patient_outcome : (events : Events) (reading : PatientReading) (wanted : Option Op) →
    let pieces = reading.conversation.conversation in
    let on = pieces.conversation in
    WithPauses reading.conversation.patience (λ own. IsInPieces (told_on on) (wants_on on) pieces.piece pieces.part.items own) wanted reading.conversation.due reading.conversation.idle events →
    length (steps_of events) ≡ reading.steps → reading.steps ≤ reading.limit → reading.limit ≡ most_steps → HasPatientOutcome on.doubts events on.conversation
patient_outcome events reading wanted (own, adds, told) counted few limit =
    let pieces = reading.conversation.conversation in
    let on = pieces.conversation in
    let same = steps_paused reading.conversation.patience own events wanted reading.conversation.due reading.conversation.idle adds in
    let fewer = joined_few own told.own told.half pieces.part.items told.joins in
    let all = ap length same in
    (own, same, (told.own, told.half, pieces.part.items, told.joins, outcome on.doubts told.own on.conversation (omega (arith, fewer, all, counted, few, limit)) told.was_told.1))
