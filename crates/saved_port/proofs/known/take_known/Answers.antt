use Rattle.saved_port.proofs.TakenLaws.{taken_known, taken_reads}
use Rattle.saved_port.proofs.known.take_known.Goals as goal

pub returns-clause-known : goal.returns-clause-known
returns-clause-known c known =
    let port = c.args.port.now in
    taken_known port c.args.reply.now c.args.wanted.now c.args.now c.take.result c.take.new.self known port.outstanding c.tell.ensures c.requires c.take.ensures.exact

pub returns-clause-reading : goal.returns-clause-reading
returns-clause-reading c =
    let port = c.args.port.now in
    taken_reads port c.args.reply.now c.args.wanted.now c.args.now c.take.result c.take.new.self port.outstanding c.requires c.take.ensures.exact
