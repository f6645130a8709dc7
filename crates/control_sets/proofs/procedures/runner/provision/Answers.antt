use Rattle.std.proofs.Common.{ap, subst, ◌∙◌}
use Rattle.bus_model.specs.Runs.{IsFull}
use Rattle.field_tables.specs.LaneSets.{Lanes}
use Rattle.control_sets.specs.Answers.{provisioned_steps}
use Rattle.control_sets.specs.ControlBytes.{control_bytes}
use Rattle.control_sets.specs.PlanLanes.{lanes_outside}
use Rattle.control_sets.specs.OutcomeOfProvisioning.{IsProvisioning}
use Rattle.control_sets.specs.Procedures.{MakesHistory}
use Rattle.control_sets.proofs.PlanLaneLaws.{outside_none}
use Rattle.control_sets.proofs.procedures.runner.provision.Goals as goal

pub returns : goal.returns
returns g c =
    let old = g.B.Bus.seen c.args.bus.now in
    let new = g.B.Bus.seen c.provision_keeping.new.bus in
    let control = control_bytes c.args.advert.now c.args.plan.now in
    subst (λ (lanes : Lanes). MakesHistory g.B.Bus.rules old new (λ history. IsProvisioning control lanes (IsFull new) history (provisioned_steps c.provision_keeping.result)))
    (ap (lanes_outside c.args.advert.now) c.new.ensures ∙ outside_none c.args.advert.now) c.provision_keeping.ensures
