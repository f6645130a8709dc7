use Rattle.vdm_reading.proofs.Told.{once, told_wait}
use Rattle.vdm_reading.proofs.conversation.VdmReadingConversation.waited.Goals as goal

pub returns-then-is_wait-clause-told : goal.returns-then-is_wait-clause-told
returns-then-is_wait-clause-told c events time asks told = told_wait events c.args.self.now told time asks

pub returns-then-is_wait-clause-once : goal.returns-then-is_wait-clause-once
returns-then-is_wait-clause-once c = once c.args.self.now
