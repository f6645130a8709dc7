use Rattle.std.proofs.Common.{sym, subst, ◌∙◌}
use Rattle.command_block.specs.declared.outcome.Outcome.{Outcome}
use Rattle.command_block.specs.Deliveries.{IsDelivered, terms_of}
use Rattle.command_block.proofs.Delivered.{delivered, goes_on}
use Rattle.command_block.proofs.delivery.DeliveryConversation.next.Goals as goal

pub returns-in-Do-clause-goes_on : goal.returns-in-Do-clause-goes_on
returns-in-Do-clause-goes_on c events told = goes_on c.args.self.now.patient events c.in-Do.op (sym c.next.ensures.value ∙ c.in-Do.is) told.0

pub returns-in-End-clause-ends : goal.returns-in-End-clause-ends
returns-in-End-clause-ends c events told =
    let patient = c.args.self.now.patient in
    subst (λ (o : Outcome). IsDelivered (terms_of patient) events o) (sym c.known.ensures.value) (delivered patient events told.0)
