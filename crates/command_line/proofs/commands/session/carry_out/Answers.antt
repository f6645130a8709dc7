use Rattle.std.specs.Prelude.{◌&&◌, is_none, is_some}
use Rattle.bus_model.specs.ScriptBuses.{seen_at}
use Rattle.command_line.specs.ProvisionCommand.{Activates, Provisions, fault_of, steps_of}
use Rattle.command_line.proofs.ProcedureAnswers.{carries_out, makes_as}
use Rattle.command_line.proofs.commands.session.carry_out.Goals as goal

pub returns : goal.returns
returns c =
    let advert = c.args.advert.now in
    let plan = c.args.plan.now in
    let kept = c.args.kept.now in
    let woken = seen_at c.wake_if-woken.new.bus in
    let provisioned = seen_at c.provision_if-provisioned.new.bus in
    let activated = seen_at c.activate_if-activated.new.bus in
    let provisions = makes_as c.has_no_fault-goes_on.result (is_none (fault_of c.wake_if-woken.result)) (Provisions advert plan kept)
    woken provisioned c.provision_if-provisioned.result c.has_no_fault-goes_on.ensures c.provision_if-provisioned.ensures in
    let activates = makes_as c.is_activated_after-comes_up.result (c.args.is_activated && is_some (steps_of c.provision_if-provisioned.result)) (Activates advert plan)
    provisioned activated c.activate_if-activated.result c.is_activated_after-comes_up.ensures c.activate_if-activated.ensures in
    carries_out advert plan c.args.is_woken c.args.is_activated kept (seen_at c.args.bus.now) woken provisioned activated _
    (c.requires.sound, c.requires.at_rest) c.wake_if-woken.ensures provisions activates
