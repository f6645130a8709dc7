use Rattle.std.proofs.Common.{◌∷◌, ℕ, Option, Some, ap, inr, refl, subst, sym, ◌∙◌}
use Rattle.bus_model.specs.declared.operation.Op.{Op}
use Rattle.bus_model.specs.declared.operation.Reply.TheVariants.{Refused}
use Rattle.conversations.specs.declared.next.Next.{Next}
use Rattle.conversations.specs.Events.{made}
use Rattle.conversations.specs.Wanted.{op_of}
use Rattle.conversations.specs.declared.watching.Look.{Look}
use Rattle.conversations.specs.declared.watching.Look.TheVariants.{Due, Seen}
use Rattle.conversations.specs.Watching.{AddsLooks, IsLooked}
use Rattle.conversations.proofs.WatchingLaws.{looking_at}
use Rattle.conversations.proofs.watching.Watching.take_look.Goals as goal

pub returns-in-None-clause-told : goal.returns-in-None-clause-told
returns-in-None-clause-told g c events (own, adds, told) =
    let old = c.args.self.now in
    let (op, due, wants, other) = looking_at old.look (g.C.Conversation.wants old.conversation) c.requires.looks in
    let wanted = ap (λ (n : Next g.row.C-End.Denot). op_of n) wants in
    let before : AddsLooks old.watches own events Due (Some op) =
    subst (λ (l : Look). AddsLooks old.watches own events l (Some op)) due (subst (λ (w : Option Op). AddsLooks old.watches own events old.look w) wanted adds) in
    let refused = sym (sym c.shown.ensures ∙ c.in-None.is) in
    let looked = subst (λ (found : Option ℕ). IsLooked found op own (made op Refused ∷ own) Seen (op_of (g.C.Conversation.wants c.take.new.self))) refused (refl, refl) in
    (made op Refused ∷ own, inr (op, own, refl, other, before, looked), c.take.ensures.told own op wants told)
