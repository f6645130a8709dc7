use Rattle.conversations.specs.Events.{steps_of}
use Rattle.control_sets.proofs.Turns.{told_more}
use Rattle.control_sets.proofs.procedures.procedure.TaskListConversation.take.Goals as goal

pub returns-clause-told : goal.returns-clause-told
returns-clause-told c events op asked told = told_more c.args.self.now c.told.new.self op c.args.reply.now (steps_of events) c.told.ensures c.requires asked told
