use Rattle.std.proofs.Common.{sym, subst, ◌∙◌}
use Rattle.std.specs.Prelude.{Option}
use Rattle.control_sets.specs.declared.fault.ProvisionFault.{ProvisionFault}
use Rattle.control_sets.specs.PowerProgress.{HasComeTo}
use Rattle.conversations.specs.Events.{steps_of}
use Rattle.control_sets.proofs.PowerLaws.{goes_on}
use Rattle.control_sets.proofs.procedures.power.PowerChangeConversation.next.Goals as goal

pub returns-in-None-Some-clause-goes_on : goal.returns-in-None-Some-clause-goes_on
returns-in-None-Some-clause-goes_on c events come =
    let change = c.args.self.now in
    goes_on change.power change.stage (steps_of events) c.in-None-Some.op (sym c.op.ensures.value ∙ c.in-None-Some.is-1)
    (subst (λ (f : Option ProvisionFault). HasComeTo change.power change.stage f (steps_of events)) c.in-None-Some.is-0 come)
