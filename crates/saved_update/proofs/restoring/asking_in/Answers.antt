use Rattle.std.proofs.Common.{ap, ◌∙◌}
use Rattle.command_block.specs.declared.delivery.Delivery.{Delivery}
use Rattle.command_block.specs.declared.message.Message.{Message}
use Rattle.command_block.specs.Deliveries.{terms_for, terms_of}
use Rattle.saved_update.proofs.restoring.asking_in.Goals as goal

pub returns-clause-of : goal.returns-clause-of
returns-clause-of c =
    (c.requires.none, ap (λ (d : Delivery). terms_of d.patient) c.delivery_in-delivery.ensures ∙ ap (λ (m : Message). terms_for m 0 0) c.message.ensures)
