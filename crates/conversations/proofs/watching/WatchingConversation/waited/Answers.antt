use Rattle.std.proofs.Common.{◌∷◌, Option, ap, refl, subst}
use Rattle.bus_model.specs.declared.operation.Op.{Op}
use Rattle.conversations.specs.declared.event.Event.TheVariants.{Waited}
use Rattle.conversations.specs.declared.next.Next.{Next}
use Rattle.conversations.specs.Wanted.{op_of}
use Rattle.conversations.specs.Watching.{AddsLooks}
use Rattle.conversations.proofs.WatchingLaws.{own_wait}
use Rattle.conversations.proofs.watching.WatchingConversation.waited.Goals as goal

pub returns-then-is_wait-clause-told : goal.returns-then-is_wait-clause-told
returns-then-is_wait-clause-told g c events time asks (own, adds, told) =
    let old = c.args.self.now in
    let wants = own_wait old.look (g.C.Conversation.wants old.conversation) time asks in
    let before = subst (λ (w : Option Op). AddsLooks old.watches own events old.look w) (ap (λ (n : Next g.row.C-End.Denot). op_of n) wants) adds in
    (Waited time ∷ own, (own, old.look, refl, before, c.look_after_wait-self.ensures), c.waited.ensures.told own time wants told)
