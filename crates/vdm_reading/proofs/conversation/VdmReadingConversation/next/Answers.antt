use Rattle.vdm_reading.proofs.Told.{ends_if, goes_on_if}
use Rattle.vdm_reading.proofs.conversation.VdmReadingConversation.next.Goals as goal

pub returns-clause-ends : goal.returns-clause-ends
returns-clause-ends c events told = ends_if events c.args.self.now c.wanted.result c.wanted.ensures.value told

pub returns-clause-goes_on : goal.returns-clause-goes_on
returns-clause-goes_on c events told = goes_on_if events c.args.self.now c.wanted.result told
