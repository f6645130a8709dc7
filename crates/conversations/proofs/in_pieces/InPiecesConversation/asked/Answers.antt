use Rattle.std.proofs.Common.{◌∷◌, [], Option, if◌then◌else◌, subst, sym}
use Rattle.bus_model.specs.declared.operation.Op.{Op}
use Rattle.conversations.specs.declared.event.Event.TheVariants.{Asked}
use Rattle.conversations.specs.declared.in_pieces.InPieces.{InPieces}
use Rattle.conversations.specs.Events.{Events}
use Rattle.conversations.specs.Pieces.{IsInPieces, is_same_wanted}
use Rattle.conversations.specs.Wanted.{op_of}
use Rattle.conversations.proofs.InPiecesLaws.{says}
use Rattle.conversations.proofs.in_pieces.InPiecesConversation.asked.Goals as goal

pub returns-clause-told : goal.returns-clause-told
returns-clause-told g c events told =
    let old = c.args.self.now in
    let number = c.args.number in
    let new = c.asked.new.self in
    let New : Events → Type 0 = λ own. g.C.Conversation.told own new in
    let wants = g.C.Conversation.wants old.conversation in
    let later = g.C.Conversation.wants new in
    let said = says (λ own. g.C.Conversation.told own old.conversation) New wants later old.piece old.part.items events told number (λ own at. c.asked.ensures.told own at) in
    let Told : InPieces g.row.C.Denot → Type 0 = λ p. IsInPieces (λ own. g.C.Conversation.told own p.conversation) (g.C.Conversation.wants p.conversation) p.piece p.part.items (Asked number ∷ events) in
    subst Told (sym c.leave.ensures)
    (subst (λ (before : Option Op). IsInPieces New later old.piece (if is_same_wanted before (op_of later) then old.part.items else []) (Asked number ∷ events)) (sym c.wanted-wanted.ensures) said)
