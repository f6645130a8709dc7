use Rattle.std.proofs.Common.{◌≡◌, ◌+◌, ℕ, Bool, ◌∷◌, false, Option, Some, None, ap, inl, inr, refl, sym, subst, ◌∙◌}
use Rattle.bus_model.specs.declared.operation.Op.{Op}
use Rattle.conversations.specs.declared.event.Event.TheVariants.{Waited}
use Rattle.conversations.specs.declared.next.Next.{Next}
use Rattle.conversations.specs.declared.pausing.Pausing.{Pausing}
use Rattle.conversations.specs.Pauses.{AddsPauses, WithPauses, counted}
use Rattle.conversations.specs.Wanted.{op_of}
use Rattle.conversations.proofs.PausingLaws.{due_wait, own_wait}
use Rattle.conversations.proofs.pausing.PausingConversation.waited.Goals.{in-Some, in-None}
use Rattle.conversations.proofs.pausing.PausingConversation.waited.Goals as goal

pub returns-clause-told : goal.returns-clause-told
returns-clause-told g c events time asks (own, adds, at) =
    let old = c.args.self.now in
    let wanted = g.C.Conversation.wants old.conversation in
    let Told : Pausing g.row.C.Denot → Type 0 = λ pausing.
    WithPauses pausing.patience (λ own. g.C.Conversation.told own pausing.conversation) (op_of (g.C.Conversation.wants pausing.conversation)) false pausing.idle (Waited time ∷ events) in
    let found : c.op_in.result ≡ op_of wanted = c.op_in.ensures ∙ ap (λ (n : Next g.row.C-End.Denot). op_of n) c.next-2.ensures.value in
    elim c.match-op_in.branch [
      | in-Some w ↦
          let op_is : op_of wanted ≡ Some w.in-Some._op = sym found ∙ w.in-Some.is in
          let (due, few, long) = due_wait old.due old.idle old.patience wanted w.in-Some._op time op_is asks in
          let before = subst (λ (due : Bool). AddsPauses old.patience own events (op_of wanted) due old.idle) due adds in
          let idle = w.saturating_add-self.ensures ∙ ap (λ (n : ℕ). counted (old.idle + n)) (sym long) in
          subst Told (sym w.self-is) (own, inl (w.in-Some._op, old.idle, op_is, before, few, long, refl, idle), at)
      | in-None w ↦
          let none : op_of wanted ≡ None = sym found ∙ w.in-None.is in
          let (asked, wants, is) = own_wait old.due old.idle old.patience wanted time none asks in
          let before = subst (λ (w : Option Op). AddsPauses old.patience own events w old.due old.idle) none adds in
          subst Told (sym w.self-is) (Waited asked ∷ own, inr (own, asked, old.due, refl, before, is, refl), w.waited.ensures.told own asked wants at)
    ]
