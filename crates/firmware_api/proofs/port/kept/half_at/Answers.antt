use Rattle.std.proofs.Common.{sym, subst}
use Rattle.port_manager.specs.declared.job.Job.{Job}
use Rattle.port_manager.specs.Jobs.{IsReplyTo, asked}
use Rattle.firmware_api.specs.KeptPorts.{HasRoom}
use Rattle.firmware_api.proofs.KeptLaws.{reading_replies}
use Rattle.firmware_api.proofs.WholeHalfLaws.{placed_on}
use Rattle.firmware_api.proofs.port.kept.half_at.Goals as goal

pub whole_half-requires-clause-reply : goal.whole_half-requires-clause-reply
whole_half-requires-clause-reply c =
    reading_replies c.in-Reading.reading c.args.reply.now (subst (λ (j : Job). IsReplyTo (asked j) c.args.reply.now) c.in-Reading.is c.requires.reply)

pub returns-in-Reading-clause-room : goal.returns-in-Reading-clause-room
returns-in-Reading-clause-room c some =
    subst HasRoom (sym c.in-Reading.is)
    (placed_on c.in-Reading.reading.conversation.conversation c.args.reply.now
    (reading_replies c.in-Reading.reading c.args.reply.now (subst (λ (j : Job). IsReplyTo (asked j) c.args.reply.now) c.in-Reading.is c.requires.reply)))
