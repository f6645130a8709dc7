use Rattle.std.proofs.Common.{Ok, Err}
use Rattle.control_sets.specs.PlanLanes.{lanes_outside}
use Rattle.control_sets.proofs.OutcomeCalls.{provisions}
use Rattle.control_sets.proofs.PlanLaneLaws.{kept_allowed}
use Rattle.control_sets.proofs.procedures.runner.provision_keeping.Goals as goal

pub lanes_outside-requires : goal.lanes_outside-requires
lanes_outside-requires g c = kept_allowed c.args.advert.now c.args.plan.now c.args.kept.now c.requires.admissible.allowed c.requires.kept

pub returns-in-Ok : goal.returns-in-Ok
returns-in-Ok g c =
    let lanes = lanes_outside c.args.advert.now c.args.kept.now in
    let (history, ran, outcome) = c.in-Ok.ensures in
    (history, ran, provisions (g.B.Bus.seen c.carry_out.new.bus) c.args.advert.now c.args.plan.now c.bytes_of.result c.bytes_of.ensures lanes c.lanes_outside.result c.lanes_outside.ensures (Ok c.in-Ok.steps) history outcome)

pub returns-in-Err : goal.returns-in-Err
returns-in-Err g c =
    let lanes = lanes_outside c.args.advert.now c.args.kept.now in
    let (history, ran, outcome) = c.in-Err.ensures in
    (history, ran, provisions (g.B.Bus.seen c.carry_out.new.bus) c.args.advert.now c.args.plan.now c.bytes_of.result c.bytes_of.ensures lanes c.lanes_outside.result c.lanes_outside.ensures (Err c.in-Err.fault) history outcome)
