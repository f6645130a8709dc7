use Rattle.std.proofs.Common.{sym, subst, ap, ◌∙◌, ◌∷◌}
use Rattle.conversations.specs.declared.next.Next.{Next}
use Rattle.conversations.specs.Events.{made}
use Rattle.conversations.specs.Wanted.{IsReplyTo}
use Rattle.vdm_reading.specs.declared.end.VdmEnd.{VdmEnd}
use Rattle.vdm_reading.specs.declared.reading.VdmReading.{VdmReading}
use Rattle.vdm_reading.specs.VdmAccounts.{IsTold}
use Rattle.vdm_reading.proofs.Told.{request_kept, told_step}
use Rattle.vdm_reading.proofs.conversation.VdmReadingConversation.take.Goals as goal

pub returns-clause-topic : goal.returns-clause-topic
returns-clause-topic c = ap (λ (reading : VdmReading). reading.request) c.advance.ensures ∙ request_kept c.args.self.now c.args.reply.now

pub returns-clause-told : goal.returns-clause-told
returns-clause-told c events op asks told =
    subst (λ (reading : VdmReading). IsTold (made op c.args.reply.now ∷ events) reading) (sym c.advance.ensures)
    (told_step events c.args.self.now told op c.args.reply.now asks (subst (λ (next : Next VdmEnd). IsReplyTo next c.args.reply.now) asks c.requires))
