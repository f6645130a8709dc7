-- A conversation after a reply, by what it was.
use Rattle.std.proofs.Common.{◌≡◌, ◌<◌, ℕ, List, Option, Some, refl, ap, sym, subst, ◌∙◌}
use Rattle.bus_model.specs.declared.operation.Reply.{Reply}
use Rattle.conversations.specs.Wanted.{IsReplyTo}
use Rattle.control_sets.specs.PatientProcedures.{WatchfulProcedure}
use Rattle.control_sets.specs.OutcomeAnswers.{most_steps}
use Rattle.control_sets.specs.PowerProgress.{PatientPower}
use Rattle.firmware_api.specs.declared.conversation.numbers.SavedConversation.{SavedConversation}
use Rattle.firmware_api.specs.declared.half.HalfBytes.{HalfBytes}
use Rattle.firmware_api.specs.declared.kept.Kept.{Kept}
use Rattle.firmware_api.specs.declared.kept.Kept.TheVariants.{OfTasks, OfPower, OfReading}
use Rattle.conversations.specs.Patiently.{Patient, wants_patiently}
use Rattle.firmware_api.specs.KeptConversations.{InHand, after, next_of, pieces_want}
use Rattle.firmware_api.specs.SavedConversations.{IsInFront, conversation_in}
use Rattle.firmware_api.specs.WholeHalves.{HasFewHalves, IsHalfBy}
use Rattle.firmware_api.proofs.FitLaws.{fits}
use Rattle.firmware_api.proofs.WatchfulLaws.{watchful_by}
use Rattle.firmware_api.proofs.ReadingRoom.{Later, ending_reply, few_counted, later_by}

abbrev limit_of : Kept → ℕ
limit_of (OfTasks procedure) = procedure.conversation.limit
limit_of (OfPower change) = change.limit
limit_of (OfReading read) = read.limit

same_limit : (kept : Kept) (reply : Reply) → limit_of (after kept reply) ≡ limit_of kept
same_limit (OfTasks procedure) reply = watchful_by procedure reply (λ (it : WatchfulProcedure). it.conversation.limit ≡ procedure.conversation.limit) (λ look. refl) (λ r look. refl)
same_limit (OfPower change) reply = refl
same_limit (OfReading read) reply = refl

same_reading : (a b : Patient InHand) → OfReading a ≡ OfReading b → a ≡ b
same_reading a b same = cc

module _ (saved : SavedConversation) (halves : List HalfBytes) (reply : Reply) where
  has_limit : (kept : Kept) → conversation_in saved halves ≡ Some kept → limit_of kept ≡ most_steps
  has_limit (OfTasks procedure) is = fits saved halves (OfTasks procedure) is
  has_limit (OfPower change) is = fits saved halves (OfPower change) is
  has_limit (OfReading read) is = (fits saved halves (OfReading read) is).0.room.0

  pub few : (kept : Kept) → conversation_in saved halves ≡ Some kept → HasFewHalves kept
  few (OfTasks procedure) is = tt
  few (OfPower change) is = tt
  few (OfReading read) is = (fits saved halves (OfReading read) is).2

  -- it may make as many steps as before
  pub tasks_limit : (kept : Kept) (procedure : WatchfulProcedure) → conversation_in saved halves ≡ Some kept → OfTasks procedure ≡ after kept reply → procedure.conversation.limit ≡ most_steps
  tasks_limit kept procedure is same = ap limit_of same ∙ same_limit kept reply ∙ has_limit kept is

  pub power_limit : (kept : Kept) (change : PatientPower) → conversation_in saved halves ≡ Some kept → OfPower change ≡ after kept reply → change.limit ≡ most_steps
  power_limit kept change is same = ap limit_of same ∙ same_limit kept reply ∙ has_limit kept is

  -- only a reading has a half more
  pub counted : (kept : Kept) (read : Patient InHand) → conversation_in saved halves ≡ Some kept → IsReplyTo (next_of kept) reply → OfReading read ≡ after kept reply → saved.halves < 5
  counted (OfTasks old) read is answers same = absurd cc
  counted (OfPower old) read is answers same = absurd cc
  counted (OfReading old) read is answers same =
      few_counted old reply (ending_reply (wants_patiently pieces_want old) reply answers) saved.halves (fits saved halves (OfReading old) is).0

  pub reading_later : (kept : Kept) (read : Patient InHand) (half : Option HalfBytes) (number : ℕ) (new : List HalfBytes) → conversation_in saved halves ≡ Some kept → IsReplyTo (next_of kept) reply →
      OfReading read ≡ after kept reply → IsHalfBy half kept reply → IsInFront half saved.halves halves number new → Later read number new
  reading_later (OfTasks old) read half number new is answers same by front = absurd cc
  reading_later (OfPower old) read half number new is answers same by front = absurd cc
  reading_later (OfReading old) read half number new is answers same by front =
      let fit = fits saved halves (OfReading old) is in
      subst (λ (r : Patient InHand). Later r number new) (sym (same_reading read _ same))
      (later_by old reply (ending_reply (wants_patiently pieces_want old) reply answers) saved.halves fit.0 half number halves new by fit.1 front)

  -- only a reading is told of halves
  pub is_no_reading : (procedure : WatchfulProcedure) (read : Patient InHand) → OfTasks procedure ≡ after (OfReading read) reply → ⊥
  is_no_reading procedure read same = cc

  pub is_no_power : (change : PatientPower) (read : Patient InHand) → OfPower change ≡ after (OfReading read) reply → ⊥
  is_no_power change read same = cc
