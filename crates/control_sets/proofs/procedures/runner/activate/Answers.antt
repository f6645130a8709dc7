use Rattle.std.proofs.Common.{Ok, Err}
use Rattle.control_sets.specs.PlanLanes.{plan_lanes}
use Rattle.control_sets.proofs.OutcomeCalls.{activates}
use Rattle.control_sets.proofs.procedures.runner.activate.Goals as goal

pub returns-in-Ok : goal.returns-in-Ok
returns-in-Ok g c =
    let lanes = plan_lanes c.args.advert.now c.args.plan.now in
    let (history, ran, outcome) = c.in-Ok.ensures in
    (history, ran, activates (g.B.Bus.seen c.carry_out.new.bus) c.args.advert.now c.args.plan.now c.bytes_of.result c.bytes_of.ensures lanes c.lanes_of.result c.lanes_of.ensures (Ok c.in-Ok.steps) history outcome)

pub returns-in-Err : goal.returns-in-Err
returns-in-Err g c =
    let lanes = plan_lanes c.args.advert.now c.args.plan.now in
    let (history, ran, outcome) = c.in-Err.ensures in
    (history, ran, activates (g.B.Bus.seen c.carry_out.new.bus) c.args.advert.now c.args.plan.now c.bytes_of.result c.bytes_of.ensures lanes c.lanes_of.result c.lanes_of.ensures (Err c.in-Err.fault) history outcome)
