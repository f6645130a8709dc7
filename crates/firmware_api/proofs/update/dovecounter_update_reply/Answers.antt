use Rattle.std.proofs.Common.{◌≡◌, Option, Some, ap, sym, subst, ◌∙◌}
use Rattle.bus_model.specs.declared.operation.Op.{Op}
use Rattle.bus_model.specs.declared.operation.Reply.{Reply}
use Rattle.conversations.specs.declared.next.Next.{Next}
use Rattle.conversations.specs.declared.next.Next.TheVariants.{Do}
use Rattle.saved_update.specs.declared.work.Ending.{Ending}
use Rattle.saved_update.specs.declared.work.Work.{Work}
use Rattle.saved_update.specs.SavedUpdates.{work_in}
use Rattle.saved_update.specs.Works.{HasRested, replied}
use Rattle.firmware_api.specs.Operations.{reply_of}
use Rattle.firmware_api.specs.SavedConversations.{IsReplyFor}
use Rattle.firmware_api.specs.Updates.{IsReplyTold, wanted_of}
use Rattle.firmware_api.proofs.AboutLaws.{reply_is}
use Rattle.firmware_api.proofs.SavedLaws.{same_some}
use Rattle.firmware_api.proofs.ToldReplies.{told_of}
use Rattle.firmware_api.proofs.update.dovecounter_update_reply.Goals as goal

pub returns-in-Some-reply_to-clause-told : goal.returns-in-Some-reply_to-clause-told
returns-in-Some-reply_to-clause-told c =
    let told = reply_of c.args.outcome c.args.bytes.now in
    let wanted = ap wanted_of (sym c.restore.ensures.value ∙ c.in-Some.is) ∙ ap (λ (next : Next Ending). Some next) (sym c.next.ensures.value ∙ c.in-Do.is) in
    subst (λ (next : Option (Next Ending)). IsReplyTold 0 c.args.outcome told next) (sym wanted)
    (told_of Ending c.args.outcome c.reply_to.result c.in-Do.op c.in-Some-reply_to.reply told c.in-Some-reply_to.is c.reply_to.ensures)

pub returns-in-Some-reply_to-clause-taken : goal.returns-in-Some-reply_to-clause-taken
returns-in-Some-reply_to-clause-taken c done work op reply is asks told =
    let file = c.args.file.now in
    let same = same_some c.in-Some.work work (sym (sym c.restore.ensures.value ∙ c.in-Some.is) ∙ is) in
    let replies = reply_is c.reply_to.result c.in-Do.op c.in-Some-reply_to.reply reply c.in-Some-reply_to.is (subst (λ (r : Option Reply). IsReplyFor c.reply_to.result c.in-Do.op r) told c.reply_to.ensures) in
    c.take_saved.ensures ∙ ap (λ (w : Work). Some (replied file w c.in-Some-reply_to.reply)) same ∙ ap (λ (r : Reply). Some (replied file work r)) replies

pub returns-in-Wait-clause-waited : goal.returns-in-Wait-clause-waited
returns-in-Wait-clause-waited c done work time is asks =
    let file = c.args.file.now in
    let same = same_some c.in-Some.work work (sym (sym c.restore.ensures.value ∙ c.in-Some.is) ∙ is) in
    subst (λ (w : Work). (rested : Work) × HasRested file w rested × (work_in file c.wait_saved.new.saved ≡ Some rested)) same c.wait_saved.ensures
