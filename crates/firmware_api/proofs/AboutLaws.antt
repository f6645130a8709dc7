-- No reply and no pause changes what a conversation is about.
use Rattle.std.proofs.Common.{◌≡◌, ◌≢◌, ◌∷◌, ℕ, true, false, List, length, inl, inr, Option, Some, None, Result, Ok, Err, refl, ap, sym, subst, ◌∙◌}
use Rattle.std.specs.Prelude.{◌⊎◌}
use Rattle.std.specs.Option.{option_map}
use Rattle.std.proofs.Math.Dec.{eqb}
use Rattle.std.proofs.lemmas.Bool.Decides.{eqb_tells}
use Rattle.std.proofs.lemmas.Option.{none-some}
use Rattle.bus_model.specs.declared.operation.Op.{Op}
use Rattle.bus_model.specs.declared.operation.Op.TheVariants.{Fetch, Store}
use Rattle.bus_model.specs.declared.operation.Reply.{Reply}
use Rattle.bus_model.specs.declared.operation.Reply.TheVariants.{Bytes, Refused}
use Rattle.bus_model.specs.declared.operation.Reply.TheVariants as replies
use Rattle.bus_model.specs.Operations.{Answers}
use Rattle.conversations.specs.declared.event.Event.TheVariants.{Waited}
use Rattle.conversations.specs.declared.next.Next.{Next}
use Rattle.conversations.specs.declared.next.Next.TheVariants.{Do, Wait}
use Rattle.conversations.specs.declared.pausing.Patience.{Patience}
use Rattle.conversations.specs.Events.{Events, made}
use Rattle.conversations.specs.Pieces.{after_told, whole_reply}
use Rattle.conversations.specs.Selecting.{chosen}
use Rattle.paged_memory.specs.declared.page_addressing.PageAddressing.TheVariants.{BankAndPage}
use Rattle.control_sets.specs.PatientProcedures.{WatchfulProcedure}
use Rattle.control_sets.specs.declared.fault.ProvisionFault.{ProvisionFault}
use Rattle.control_sets.specs.declared.procedures.power.PowerChange.{PowerChange}
use Rattle.control_sets.specs.declared.procedures.power.PowerStage.{PowerStage}
use Rattle.control_sets.specs.declared.procedures.procedure.TaskList.{TaskList}
use Rattle.control_sets.specs.PowerProgress.{moved_to, stage_after}
use Rattle.control_sets.specs.Progress as tasks
use Rattle.module_reading.specs.declared.halves.Halves.{Halves}
use Rattle.module_reading.specs.ImageReading as reading
use Rattle.module_reading.proofs.HalvesLaws.{lacks_same_request, same_request}
use Rattle.firmware_api.specs.declared.conversation.numbers.SavedConversation.{SavedConversation}
use Rattle.firmware_api.specs.declared.half.HalfBytes.{HalfBytes}
use Rattle.firmware_api.specs.declared.kept.Kept.{Kept}
use Rattle.firmware_api.specs.declared.kept.Kept.TheVariants.{OfTasks, OfPower, OfReading}
use Rattle.port_manager.specs.Jobs.{paged_halves}
use Rattle.port_manager.specs.Patients.{after_on, wants_on}
use Rattle.firmware_api.specs.KeptConversations.{Bringing, Ending, Fetching, InHand, Subject, Turning, WasTold, about, after, after_pause, next_of, patience_of}
use Rattle.firmware_api.specs.SavedConversations.{IsReplyFor, IsSavedAt, conversation_in, wanted}
use Rattle.firmware_api.proofs.PauseLaws.{told_after_pause}
use Rattle.firmware_api.proofs.ReadingRoom.{same_piece}
use Rattle.firmware_api.proofs.SavedLaws.{same_some}
use Rattle.firmware_api.proofs.WatchfulLaws.{watchful_by}
use Rattle.firmware_api.proofs.WholeHalfLaws.{keeps_doubts, on_page_by}

same_power : (change : PowerChange) (result : Result PowerStage ProvisionFault) → (moved_to change result).power ≡ change.power
same_power change (Ok stage) = refl
same_power change (Err fault) = refl

doubts_by : (pieces : InHand) (reply : Reply) (whole : Option Reply) → (after_told (wants_on paged_halves) (after_on paged_halves) pieces reply whole).conversation.doubts ≡ pieces.conversation.doubts
doubts_by pieces reply None = refl
doubts_by pieces reply (Some whole) =
    let on = pieces.conversation in
    keeps_doubts reading.after_reply (λ (halves : Halves) (page : ℕ). reading.after_lack halves) true (chosen (reading.addressing on.conversation)) (paged_halves.page on.conversation) on whole

request_by : (pieces : InHand) (reply : Reply) (whole : Option Reply) → (after_told (wants_on paged_halves) (after_on paged_halves) pieces reply whole).conversation.conversation.request ≡ pieces.conversation.conversation.request
request_by pieces reply None = refl
request_by pieces reply (Some whole) =
    let on = pieces.conversation in
    let hand = reading.in_hand on.conversation in
    on_page_by reading.after_reply (λ (halves : Halves) (page : ℕ). reading.after_lack halves) true (chosen (reading.addressing on.conversation)) (paged_halves.page on.conversation) on whole
    (λ (halves : Halves). halves.request ≡ on.conversation.request) refl (same_request hand on.conversation whole) (λ number. lacks_same_request hand on.conversation)

pub same_about : (kept : Kept) (reply : Reply) → about (after kept reply) ≡ about kept
same_about (OfTasks procedure) reply =
    let on = procedure.conversation.conversation.conversation in
    let page = tasks.page_by (tasks.hand on.conversation) in
    watchful_by procedure reply (λ (it : WatchfulProcedure). about (OfTasks it) ≡ about (OfTasks procedure)) (λ look. refl) (λ r look.
    let work = on_page_by tasks.after_reply (λ (list : TaskList) (number : ℕ). list) false BankAndPage page on r (λ (list : TaskList). list.work ≡ on.conversation.work) refl refl (λ number. refl) in
    let doubts = keeps_doubts tasks.after_reply (λ (list : TaskList) (number : ℕ). list) false BankAndPage page on r in
    (λ i. Bringing (work i) (doubts i) procedure.watches))
same_about (OfPower change) reply =
    let own = change.conversation.conversation in
    ap Turning (same_power own (stage_after own.power own.stage reply))
same_about (OfReading read) reply =
    let pieces = read.conversation.conversation in
    let piece = same_piece pieces reply in
    let doubts = doubts_by pieces reply (whole_reply pieces.piece pieces.part.items (wants_on paged_halves pieces.conversation) reply) in
    let request = request_by pieces reply (whole_reply pieces.piece pieces.part.items (wants_on paged_halves pieces.conversation) reply) in
    (λ i. Fetching (request i) (piece i) (doubts i))

same_patience : (kept : Kept) (reply : Reply) → patience_of (after kept reply) ≡ patience_of kept
same_patience (OfTasks procedure) reply = watchful_by procedure reply (λ (it : WatchfulProcedure). patience_of (OfTasks it) ≡ patience_of (OfTasks procedure)) (λ look. refl) (λ r look. refl)
same_patience (OfPower change) reply = refl
same_patience (OfReading read) reply = refl

pause_about : (kept : Kept) → about (after_pause kept) ≡ about kept
pause_about (OfTasks procedure) = refl
pause_about _ = refl

pause_patience : (kept : Kept) → patience_of (after_pause kept) ≡ patience_of kept
pause_patience (OfTasks procedure) = refl
pause_patience _ = refl

pub wanted_is : (saved : SavedConversation) (halves : List HalfBytes) (kept : Kept) (next : Next Ending) → conversation_in saved halves ≡ Some kept → wanted saved halves ≡ Some next → next_of kept ≡ next
wanted_is saved halves kept next is asks = same_some (next_of kept) next (sym (ap (option_map next_of) is) ∙ asks)

-- the reply that was taken is the one that the outcome stands for
pub answers_or : (op : Op) (reply : Reply) → Answers op reply ⊎ (¬ (Answers op reply))
answers_or (Fetch dev offset count) (Bytes bytes) = by (eqb_tells (length bytes.items) count)
  where
    by : ((eqb (length bytes.items) count ≡ true) × (length bytes.items ≡ count)) ⊎ ((eqb (length bytes.items) count ≡ false) × (length bytes.items ≢ count)) →
        (length bytes.items ≡ count) ⊎ (¬ (length bytes.items ≡ count))
    by (inl same) = inl same.1
    by (inr other) = inr other.1
answers_or (Fetch dev offset count) replies.Done = inr (λ no. no)
answers_or (Fetch dev offset count) Refused = inl tt
answers_or (Store dev offset given) (Bytes bytes) = inr (λ no. no)
answers_or (Store dev offset given) replies.Done = inl tt
answers_or (Store dev offset given) Refused = inl tt

pub reply_is : (found : Option Reply) (op : Op) (taken reply : Reply) → found ≡ Some taken → IsReplyFor found op (Some reply) → taken ≡ reply
reply_is found op taken reply is (can, cannot) = by (answers_or op reply)
  where
    by : Answers op reply ⊎ (¬ (Answers op reply)) → taken ≡ reply
    by (inl answers) = same_some taken reply (sym is ∙ can answers)
    by (inr other) = absurd (none-some taken (sym (cannot other) ∙ is))

module _ (old new : SavedConversation) (before halves : List HalfBytes) (kept : Kept) (is : conversation_in old before ≡ Some kept) (subject : Subject) (patience : Patience) (events : Events) where
  pub taken_at : (op : Op) (reply : Reply) → wanted old before ≡ Some (Do op) →
      ((events : Events) (op : Op) → next_of kept ≡ Do op → WasTold events kept → conversation_in new halves ≡ Some (after kept reply)) →
      ((events : Events) (op : Op) → next_of kept ≡ Do op → WasTold events kept → WasTold (made op reply ∷ events) (after kept reply)) →
      IsSavedAt subject patience events old before → IsSavedAt subject patience (made op reply ∷ events) new halves
  taken_at op reply asks same told (other, other_is, is_about, is_patience, was) =
      let same_kept = same_some other kept (sym other_is ∙ is) in
      let was_told = subst (WasTold events) same_kept was in
      let wants = wanted_is old before kept (Do op) is asks in (
        after kept reply,
        same events op wants was_told,
        same_about kept reply ∙ ap about (sym same_kept) ∙ is_about,
        same_patience kept reply ∙ ap patience_of (sym same_kept) ∙ is_patience,
        told events op wants was_told,
      )

  pub paused_at : (time : ℕ) → wanted old before ≡ Some (Wait time) → conversation_in new halves ≡ Some (after_pause kept) →
      IsSavedAt subject patience events old before → IsSavedAt subject patience (Waited time ∷ events) new halves
  paused_at time asks same (other, other_is, is_about, is_patience, was) =
      let same_kept = same_some other kept (sym other_is ∙ is) in
      let wants = wanted_is old before kept (Wait time) is asks in (
        after_pause kept,
        same,
        pause_about kept ∙ ap about (sym same_kept) ∙ is_about,
        pause_patience kept ∙ ap patience_of (sym same_kept) ∙ is_patience,
        told_after_pause kept time wants events (subst (WasTold events) same_kept was),
      )
