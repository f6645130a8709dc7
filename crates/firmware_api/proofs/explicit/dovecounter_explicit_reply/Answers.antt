use Rattle.std.proofs.Common.{Option, Some, ap, sym, subst, ◌∙◌}
use Rattle.bus_model.specs.declared.operation.Reply.{Reply}
use Rattle.conversations.specs.declared.next.Next.{Next}
use Rattle.conversations.specs.Wanted.{IsReplyTo}
use Rattle.explicit_provisioning.specs.ExplicitProcedures.{WatchfulTasks}
use Rattle.saved_provisioning.specs.Turns.{after, after_pause}
use Rattle.firmware_api.specs.ExplicitTold.{Ending, wanted_of}
use Rattle.firmware_api.specs.Operations.{reply_of}
use Rattle.firmware_api.specs.SavedConversations.{IsReplyFor}
use Rattle.firmware_api.specs.Updates.{IsReplyTold}
use Rattle.firmware_api.proofs.AboutLaws.{reply_is}
use Rattle.firmware_api.proofs.SavedLaws.{same_some}
use Rattle.firmware_api.proofs.ToldReplies.{answers_of, told_of}
use Rattle.firmware_api.proofs.explicit.dovecounter_explicit_reply.Goals as goal

pub take_saved-requires-clause-same : goal.take_saved-requires-clause-same
take_saved-requires-clause-same c = sym c.restore.ensures ∙ c.in-Some.is

pub wait_saved-requires : goal.wait_saved-requires
wait_saved-requires c = sym c.restore.ensures ∙ c.in-Some.is

pub take_saved-requires-clause-reply : goal.take_saved-requires-clause-reply
take_saved-requires-clause-reply c =
    let wanted = sym c.next.ensures.value ∙ c.in-Do.is in
    let answers = answers_of c.reply_to.result c.in-Do.op c.in-Some-reply_to.reply (reply_of c.args.outcome c.args.bytes.now) c.in-Some-reply_to.is c.reply_to.ensures in
    subst (λ (next : Next Ending). IsReplyTo next c.in-Some-reply_to.reply) (sym wanted) answers

pub returns-in-Some-reply_to-clause-told : goal.returns-in-Some-reply_to-clause-told
returns-in-Some-reply_to-clause-told c =
    let told = reply_of c.args.outcome c.args.bytes.now in
    let wanted = ap wanted_of (sym c.restore.ensures ∙ c.in-Some.is) ∙ ap (λ (next : Next Ending). Some next) (sym c.next.ensures.value ∙ c.in-Do.is) in
    subst (λ (next : Option (Next Ending)). IsReplyTold 0 c.args.outcome told next) (sym wanted)
    (told_of Ending c.args.outcome c.reply_to.result c.in-Do.op c.in-Some-reply_to.reply told c.in-Some-reply_to.is c.reply_to.ensures)

pub returns-in-Some-reply_to-clause-taken : goal.returns-in-Some-reply_to-clause-taken
returns-in-Some-reply_to-clause-taken c done tasks op reply is asks told =
    let same = same_some c.in-Some.tasks tasks (sym (sym c.restore.ensures ∙ c.in-Some.is) ∙ is) in
    let replies = reply_is c.reply_to.result c.in-Do.op c.in-Some-reply_to.reply reply c.in-Some-reply_to.is (subst (λ (r : Option Reply). IsReplyFor c.reply_to.result c.in-Do.op r) told c.reply_to.ensures) in
    c.take_saved.ensures ∙ ap (λ (p : WatchfulTasks). Some (after p c.in-Some-reply_to.reply)) same ∙ ap (λ (r : Reply). Some (after tasks r)) replies

pub returns-in-Wait-clause-waited : goal.returns-in-Wait-clause-waited
returns-in-Wait-clause-waited c done tasks time is asks =
    let same = same_some c.in-Some.tasks tasks (sym (sym c.restore.ensures ∙ c.in-Some.is) ∙ is) in
    c.wait_saved.ensures ∙ ap (λ (p : WatchfulTasks). Some (after_pause p)) same
