use Rattle.conversations.proofs.InPiecesLaws.{waits}
use Rattle.conversations.proofs.in_pieces.InPiecesConversation.waited.Goals as goal

pub returns-clause-told : goal.returns-clause-told
returns-clause-told g c events time asked told =
    let old = c.args.self.now in
    let new = c.waited.new.self in
    waits (λ own. g.C.Conversation.told own old.conversation) (λ own. g.C.Conversation.told own new) (g.C.Conversation.wants old.conversation) (g.C.Conversation.wants new) old.piece old.part.items events told time asked
    (λ own wants at. c.waited.ensures.told own time wants at)
