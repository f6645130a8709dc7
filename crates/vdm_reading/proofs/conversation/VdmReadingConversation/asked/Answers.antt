use Rattle.vdm_reading.proofs.conversation.VdmReadingConversation.asked.Goals as goal

pub returns-clause-told : goal.returns-clause-told
returns-clause-told c events told = record { is = told.is; each = told.each }
