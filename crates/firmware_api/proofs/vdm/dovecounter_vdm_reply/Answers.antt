use Rattle.std.proofs.Common.{Option, Some, refl, ap, sym, subst, ◌∙◌}
use Rattle.bus_model.specs.declared.operation.Reply.{Reply}
use Rattle.conversations.specs.declared.next.Next.{Next}
use Rattle.conversations.specs.Wanted.{IsReplyTo}
use Rattle.saved_vdm.specs.VdmTurns.{page_given}
use Rattle.vdm_reading.specs.declared.end.VdmEnd.{VdmEnd}
use Rattle.vdm_reading.specs.declared.reading.VdmReading.{VdmReading}
use Rattle.vdm_reading.specs.VdmStages.{after, rested}
use Rattle.firmware_api.specs.VdmTold.{IsInserted, wanted_of}
use Rattle.firmware_api.specs.Operations.{reply_of}
use Rattle.firmware_api.specs.SavedConversations.{IsReplyFor}
use Rattle.firmware_api.specs.Updates.{IsReplyTold}
use Rattle.firmware_api.proofs.AboutLaws.{reply_is}
use Rattle.firmware_api.proofs.SavedLaws.{same_some}
use Rattle.firmware_api.proofs.ToldReplies.{answers_of, told_of}
use Rattle.firmware_api.proofs.vdm.dovecounter_vdm_reply.Goals as goal

pub put_after-requires-clause-was : goal.put_after-requires-clause-was
put_after-requires-clause-was c = sym c.restored.ensures ∙ c.in-Some.is

pub put_after-requires-clause-reply : goal.put_after-requires-clause-reply
put_after-requires-clause-reply c =
    let wanted = sym c.next.ensures.value ∙ c.in-Do.is in
    let answers = answers_of c.reply_to.result c.in-Do.op c.in-Some-reply_to.reply (reply_of c.args.outcome c.args.bytes.now) c.in-Some-reply_to.is c.reply_to.ensures in
    subst (λ (next : Next VdmEnd). IsReplyTo next c.in-Some-reply_to.reply) (sym wanted) answers

pub put_rested-requires : goal.put_rested-requires
put_rested-requires c = sym c.restored.ensures ∙ c.in-Some.is

pub returns-in-Some-reply_to-clause-told : goal.returns-in-Some-reply_to-clause-told
returns-in-Some-reply_to-clause-told c =
    let told = reply_of c.args.outcome c.args.bytes.now in
    let wanted = ap wanted_of (sym c.restored.ensures ∙ c.in-Some.is) ∙ ap (λ (next : Next VdmEnd). Some next) (sym c.next.ensures.value ∙ c.in-Do.is) in
    subst (λ (next : Option (Next VdmEnd)). IsReplyTold 0 c.args.outcome told next) (sym wanted)
    (told_of VdmEnd c.args.outcome c.reply_to.result c.in-Do.op c.in-Some-reply_to.reply told c.in-Some-reply_to.is c.reply_to.ensures)

pub returns-in-Some-reply_to-clause-taken : goal.returns-in-Some-reply_to-clause-taken
returns-in-Some-reply_to-clause-taken c done it op reply is asks told =
    let saved = c.args.reading.now in
    let later = c.put_after.new.reading in
    let before = c.args.halves.now in
    let afterwards = c.put_after.new.halves in
    let same = same_some c.in-Some.it it (sym (sym c.restored.ensures ∙ c.in-Some.is) ∙ is) in
    let replies = reply_is c.reply_to.result c.in-Do.op c.in-Some-reply_to.reply reply c.in-Some-reply_to.is (subst (λ (r : Option Reply). IsReplyFor c.reply_to.result c.in-Do.op r) told c.reply_to.ensures) in (
      c.put_after.ensures.taken ∙ ap (λ (r : VdmReading). Some (after r c.in-Some-reply_to.reply)) same ∙ ap (λ (r : Reply). Some (after it r)) replies,
      subst (λ (r : Reply). IsInserted (page_given it r) r saved later before afterwards) replies
          (subst (λ (r : VdmReading). IsInserted (page_given r c.in-Some-reply_to.reply) c.in-Some-reply_to.reply saved later before afterwards) same c.put_after.ensures.inserted),
    )

pub returns-in-Wait-clause-waited : goal.returns-in-Wait-clause-waited
returns-in-Wait-clause-waited c done it time is asks =
    let same = same_some c.in-Some.it it (sym (sym c.restored.ensures ∙ c.in-Some.is) ∙ is) in
    (c.put_rested.ensures.rested ∙ ap (λ (r : VdmReading). Some (rested r)) same, c.put_rested.ensures.count, refl)
