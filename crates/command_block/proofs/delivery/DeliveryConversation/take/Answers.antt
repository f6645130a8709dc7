use Rattle.std.proofs.Common.{ap, subst, sym}
use Rattle.command_block.specs.declared.delivery.Delivery.{Delivery}
use Rattle.command_block.specs.Deliveries.{Patient, Terms, attempt_in, patient_wants}
use Rattle.command_block.specs.Phases.{known}
use Rattle.command_block.specs.Turns.{HasTurned}
use Rattle.command_block.proofs.Delivered.{do_within}
use Rattle.command_block.proofs.delivery.DeliveryConversation.take.Goals as goal

pub returns-clause-told : goal.returns-clause-told
returns-clause-told c events op asks told =
    let old = c.args.self.now in
    let becomes : Patient → Delivery = λ p. record { patient = p } in (
      c.take.ensures.told events op (do_within (known (attempt_in old.patient)) (patient_wants old.patient) op asks) told.0,
      (old, subst (λ (t : Terms). HasTurned t events old) (sym c.take.ensures.topic) told.1, asks, ap becomes c.take.ensures.after),
    )
