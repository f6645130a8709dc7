use Rattle.std.proofs.Common.{Some, ap, refl, ◌∙◌}
use Rattle.std.proofs.lemmas.Bool.{and_from, and_parts}
use Rattle.control_sets.specs.PowerProgress.{PatientPower}
use Rattle.control_sets.specs.SavedNumbers.{due_numbered, fault_in}
use Rattle.control_sets.proofs.SavedBack.{due_back, fault_back}
use Rattle.control_sets.proofs.SavedPowerBack.{can_power, power_apart, power_back, same_power}
use Rattle.control_sets.proofs.procedures.power.PowerChange.save.Goals as goal

pub returns-clause-numbers : goal.returns-clause-numbers
returns-clause-numbers c can limit =
    let within = c.args.within.now in
    let old = within.conversation.conversation in
    let (few, stops) = and_parts _ _ can in
    power_back _ old.power old.stage old.fault within.conversation.due c.number_of_power.ensures.same c.numbers_of_stage-met.ensures.same (ap fault_in c.of.ensures ∙ fault_back old.fault)
    (ap due_numbered c.number_of_due.ensures ∙ due_back within.conversation.due) (and_from _ _ few (and_from _ _ stops refl))
    ∙ ap (λ (p : PatientPower). Some p) (same_power within limit)

pub returns-clause-same : goal.returns-clause-same
returns-clause-same c events told limit = returns-clause-numbers c (can_power c.args.within.now limit events told) limit

pub returns-clause-apart : goal.returns-clause-apart
returns-clause-apart c doubts = power_apart _ doubts (c.number_of_power.ensures.apart _ _)
