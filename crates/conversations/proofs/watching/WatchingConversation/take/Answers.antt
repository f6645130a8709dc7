use Rattle.std.proofs.Common.{◌∷◌, Option, ap, inl, refl, subst, sym, ◌∙◌}
use Rattle.bus_model.specs.declared.operation.Op.{Op}
use Rattle.conversations.specs.declared.next.Next.{Next}
use Rattle.conversations.specs.Events.{made}
use Rattle.conversations.specs.Wanted.{op_of}
use Rattle.conversations.specs.Watching.{AddsLooks, WithLooks}
use Rattle.conversations.proofs.WatchingLaws.{looking_op, own_op}
use Rattle.conversations.proofs.watching.WatchingConversation.take.Goals as goal

pub returns-then-is_looking-clause-told : goal.returns-then-is_looking-clause-told
returns-then-is_looking-clause-told g c events op asks with_looks =
    let old = c.args.self.now in
    let new = c.take_look.new.self in
    let is = looking_op old.look (g.C.Conversation.wants old.conversation) op (sym c.is_looking.ensures ∙ c.if-is_looking.true) asks in
    subst (λ (o : Op). WithLooks new.watches new.look (op_of (g.C.Conversation.wants new.conversation)) (λ own. g.C.Conversation.told own new.conversation) (made o c.args.reply.now ∷ events)) (sym is)
    (c.take_look.ensures.told events with_looks)

pub returns-else-is_looking-clause-told : goal.returns-else-is_looking-clause-told
returns-else-is_looking-clause-told g c events op asks (own, adds, told) =
    let old = c.args.self.now in
    let (wants, may) = own_op old.look (g.C.Conversation.wants old.conversation) op (sym c.is_looking.ensures ∙ c.if-is_looking.false) asks in
    let before = subst (λ (w : Option Op). AddsLooks old.watches own events old.look w) (ap (λ (n : Next g.row.C-End.Denot). op_of n) wants) adds in
    (made op c.args.reply.now ∷ own, inl (own, old.look, refl, before, may, refl), c.take.ensures.told own op wants told)
