use Rattle.std.proofs.Common.{◌∷◌, ◌&&◌, [], Bool, Option, if◌then◌else◌, subst, sym, ◌∙◌}
use Rattle.bus_model.specs.declared.operation.Op.{Op}
use Rattle.conversations.specs.declared.in_pieces.InPieces.{InPieces}
use Rattle.conversations.specs.Events.{Events, made}
use Rattle.conversations.specs.Pauses.{is_refused}
use Rattle.conversations.specs.Pieces.{IsInPieces, is_same_wanted}
use Rattle.conversations.specs.Wanted.{op_of}
use Rattle.conversations.proofs.InPiecesLaws.{keeps, turns}
use Rattle.conversations.proofs.in_pieces.InPiecesConversation.take.Goals as goal

pub returns-in-Some-clause-told : goal.returns-in-Some-clause-told
returns-in-Some-clause-told g c events op asked told =
    let old = c.args.self.now in
    let reply = c.args.reply.now in
    let new = c.take.new.self in
    let Old : Events → Type 0 = λ own. g.C.Conversation.told own old.conversation in
    let New : Events → Type 0 = λ own. g.C.Conversation.told own new in
    let wants = g.C.Conversation.wants old.conversation in
    let later = g.C.Conversation.wants new in
    let t = turns Old New wants later old.piece old.part.items events told op reply asked c.requires in
    let taken = t.0 c.in-Some.whole (sym c.whole_reply.ensures.value ∙ c.in-Some.is) (λ own o wants at. c.take.ensures.told own o wants at) in
    let Told : InPieces g.row.C.Denot → Type 0 = λ p. IsInPieces (λ own. g.C.Conversation.told own p.conversation) (g.C.Conversation.wants p.conversation) p.piece p.part.items (made op reply ∷ events) in
    subst Told (sym c.leave.ensures)
    (subst (λ (may : Bool). IsInPieces New later old.piece (if may && is_same_wanted c.wanted-wanted.result (op_of later) then old.part.items else []) (made op reply ∷ events)) (sym c.is_refused.ensures)
    (subst (λ (before : Option Op). IsInPieces New later old.piece (if is_refused reply && is_same_wanted before (op_of later) then old.part.items else []) (made op reply ∷ events)) (sym c.wanted-wanted.ensures) taken))

pub returns-in-None-clause-told : goal.returns-in-None-clause-told
returns-in-None-clause-told g c events op asked told =
    let old = c.args.self.now in
    let reply = c.args.reply.now in
    let Old : Events → Type 0 = λ own. g.C.Conversation.told own old.conversation in
    let wants = g.C.Conversation.wants old.conversation in
    let t = turns Old Old wants wants old.piece old.part.items events told op reply asked c.requires in
    let kept = keeps Old Old wants wants old.piece old.part.items events told op reply t (sym c.whole_reply.ensures.value ∙ c.in-None.is) in
    let Told : InPieces g.row.C.Denot → Type 0 = λ p. IsInPieces (λ own. g.C.Conversation.told own p.conversation) (g.C.Conversation.wants p.conversation) p.piece p.part.items (made op reply ∷ events) in
    subst Told (sym c.add.ensures) kept
