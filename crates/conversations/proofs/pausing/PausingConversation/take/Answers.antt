use Rattle.std.proofs.Common.{◌≡◌, ◌∷◌, Bool, false, Option, Some, ap, refl, subst, ◌∙◌}
use Rattle.bus_model.specs.declared.operation.Op.{Op}
use Rattle.conversations.specs.declared.next.Next.{Next}
use Rattle.conversations.specs.Events.{made}
use Rattle.conversations.specs.Pauses.{AddsPauses, idle_after, is_fruitless, is_fruitless_in, is_selecting, is_selecting_in}
use Rattle.conversations.specs.Wanted.{op_of}
use Rattle.conversations.proofs.PausingLaws.{pausing_do}
use Rattle.conversations.proofs.pausing.PausingConversation.take.Goals as goal

pub returns-clause-told : goal.returns-clause-told
returns-clause-told g c events op asks (own, adds, at) =
    let old = c.args.self.now in
    let reply = c.args.reply.now in
    let new = g.C.Conversation.wants c.take.new.self in
    let (no_due, wants) = pausing_do old.due old.idle old.patience (g.C.Conversation.wants old.conversation) op asks in
    let op_is = ap (λ (n : Next g.row.C-End.Denot). op_of n) wants in
    let before : AddsPauses old.patience own events (Some op) false old.idle =
    subst (λ (due : Bool). AddsPauses old.patience own events (Some op) due old.idle) no_due
    (subst (λ (w : Option Op). AddsPauses old.patience own events w old.due old.idle) op_is adds) in
    let asked : c.op_in-asked.result ≡ Some op = c.op_in-asked.ensures ∙ ap (λ (n : Next g.row.C-End.Denot). op_of n) c.next.ensures.value ∙ op_is in
    let next : c.op_in-next.result ≡ op_of new = c.op_in-next.ensures ∙ ap (λ (n : Next g.row.C-End.Denot). op_of n) c.next-2.ensures.value in
    let due : c.is_fruitless-self.result ≡ is_fruitless op reply (op_of new) =
    c.is_fruitless-self.ensures ∙ ap (λ (a : Option Op). is_fruitless_in a reply c.op_in-next.result) asked ∙ ap (is_fruitless op reply) next in
    let idle : c.idle_after-self.result ≡ idle_after c.is_fruitless-self.result (is_selecting op) old.idle =
    c.idle_after-self.ensures ∙ ap (λ (s : Bool). idle_after c.is_fruitless-self.result s old.idle) (c.is_selecting.ensures ∙ ap is_selecting_in asked) in
    (made op reply ∷ own, (own, old.idle, refl, before, due, idle), c.take.ensures.told own op wants at)
