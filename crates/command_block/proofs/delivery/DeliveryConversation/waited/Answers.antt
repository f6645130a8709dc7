use Rattle.std.proofs.Common.{ap, subst, sym}
use Rattle.command_block.specs.declared.delivery.Delivery.{Delivery}
use Rattle.command_block.specs.Deliveries.{Patient, Terms, attempt_in, patient_wants}
use Rattle.command_block.specs.Phases.{known}
use Rattle.command_block.specs.Turns.{HasTurned}
use Rattle.command_block.proofs.Delivered.{none_ending, none_within, wait_within}
use Rattle.command_block.proofs.delivery.DeliveryConversation.waited.Goals as goal

pub returns-clause-rested : goal.returns-clause-rested
returns-clause-rested c =
    let patient = c.args.self.now.patient in
    let later = c.waited.new.self in record {
      terms = c.waited.ensures.topic;
      told = λ own time asks told. c.waited.ensures.told own time (wait_within (known (attempt_in patient)) (patient_wants patient) time asks) told;
      once = none_within (known (attempt_in later)) (patient_wants later) c.waited.ensures.once;
    }

pub returns-clause-told : goal.returns-clause-told
returns-clause-told c events time asks told =
    let old = c.args.self.now in
    let rested = returns-clause-rested c in
    (rested.told events time asks told.0, (old, subst (λ (t : Terms). HasTurned t events old) (sym rested.terms) told.1, asks, rested))

pub returns-clause-out_of_turn : goal.returns-clause-out_of_turn
returns-clause-out_of_turn c none =
    let patient = c.args.self.now.patient in
    let delivery_of : Patient → Delivery = λ it. record { patient = it } in
    ap delivery_of (c.waited.ensures.out_of_turn (none_ending (known (attempt_in patient)) (patient_wants patient) none))
