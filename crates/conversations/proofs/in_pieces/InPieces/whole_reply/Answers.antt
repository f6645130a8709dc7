use Rattle.std.proofs.Common.{List, ℕ, ap, sym, ◌∙◌}
use Rattle.conversations.specs.declared.next.Next.{Next}
use Rattle.conversations.specs.Pieces as spec
use Rattle.conversations.proofs.InPiecesLaws.{none_room}
use Rattle.conversations.proofs.in_pieces.InPieces.whole_reply.Goals as goal

pub returns-clause-room : goal.returns-clause-room
returns-clause-room g c none =
    let self = c.args.self.now in
    let reply = c.args.reply.now in
    let is = c.whole_reply.ensures.value ∙ ap (λ (p : List ℕ). spec.whole_reply self.piece p c.next.result reply) c.deref.ensures.0
    ∙ ap (λ (n : Next g.row.C-End.Denot). spec.whole_reply self.piece self.part.items n reply) c.next.ensures.value in
    none_room self.piece self.part.items (g.C.Conversation.wants self.conversation) reply (sym is ∙ none) c.requires
