use Rattle.std.proofs.Common.{◌≡◌, ◌∷◌, Option, Some, ap, sym, subst, ◌∙◌}
use Rattle.bus_model.specs.declared.operation.Reply.{Reply}
use Rattle.conversations.specs.Events.{made}
use Rattle.firmware_api.specs.declared.conversation.numbers.SavedConversation.{SavedConversation}
use Rattle.firmware_api.specs.declared.kept.Kept.{Kept}
use Rattle.firmware_api.specs.declared.kept.Kept.TheVariants.{OfReading}
use Rattle.firmware_api.specs.KeptConversations.{after, after_pause}
use Rattle.firmware_api.specs.SavedConversations.{IsReplyFor, IsSavedAt, conversation_in}
use Rattle.firmware_api.proofs.AboutLaws.{paused_at, reply_is, taken_at}
use Rattle.firmware_api.proofs.SavedLaws.{paused_back, same_some}
use Rattle.firmware_api.proofs.conversation.dovecounter_reply.Goals as goal

pub returns-in-Some-reply_to-clause-taken : goal.returns-in-Some-reply_to-clause-taken
returns-in-Some-reply_to-clause-taken c done subject patience events op reply saved asks replied =
    let old = c.args.conversation.now in
    let new = c.put_after.new.saved in
    let is = sym c.restore.ensures ∙ c.in-Some.is in
    let same = reply_is c.reply_to.result c.in-Do.op c.in-Some-reply_to.reply reply c.in-Some-reply_to.is (subst (λ (r : Option Reply). IsReplyFor c.reply_to.result c.in-Do.op r) replied c.reply_to.ensures) in
    subst (λ (r : Reply). IsSavedAt subject patience (made op r ∷ events) new c.put_after.new.halves) same
    (taken_at old new c.args.halves.now c.put_after.new.halves c.in-Some.kept is subject patience events op c.in-Some-reply_to.reply asks c.put_after.ensures.same c.put_after.ensures.told saved)

pub returns-in-Some-reply_to-clause-of_reading : goal.returns-in-Some-reply_to-clause-of_reading
returns-in-Some-reply_to-clause-of_reading c done read op reply found asks replied =
    let is = sym c.restore.ensures ∙ c.in-Some.is in
    let same_kept = same_some c.in-Some.kept (OfReading read) (sym is ∙ found) in
    let same = reply_is c.reply_to.result c.in-Do.op c.in-Some-reply_to.reply reply c.in-Some-reply_to.is (subst (λ (r : Option Reply). IsReplyFor c.reply_to.result c.in-Do.op r) replied c.reply_to.ensures) in (
      c.put_after.ensures.of_reading read same_kept ∙ ap (λ (kept : Kept). Some (after kept c.in-Some-reply_to.reply)) same_kept ∙ ap (λ (r : Reply). Some (after (OfReading read) r)) same,
      c.put_after.ensures.halves read same_kept,
    )

pub returns-in-Wait-clause-after_pause : goal.returns-in-Wait-clause-after_pause
returns-in-Wait-clause-after_pause c done kept time is asks =
    subst (λ (saved : SavedConversation). conversation_in saved c.args.halves.now ≡ Some (after_pause kept)) (sym c.put_paused.ensures)
    (paused_back c.args.conversation.now c.args.halves.now kept is)

pub returns-in-Wait-clause-waited : goal.returns-in-Wait-clause-waited
returns-in-Wait-clause-waited c done subject patience events time saved asks =
    let is = sym c.restore.ensures ∙ c.in-Some.is in
    let new = subst (λ (saved : SavedConversation). conversation_in saved c.args.halves.now ≡ Some (after_pause c.in-Some.kept)) (sym c.put_paused.ensures)
    (paused_back c.args.conversation.now c.args.halves.now c.in-Some.kept is) in
    paused_at c.args.conversation.now c.put_paused.new.saved c.args.halves.now c.args.halves.now c.in-Some.kept is subject patience events time asks new saved
