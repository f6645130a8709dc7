use Rattle.std.proofs.Common.{subst, ap, length, arith}
use Rattle.applications.specs.Advertised.{InOrder}
use Rattle.control_sets.proofs.Allowed.{lanes_of_allowed, number_of_allowed}
use Rattle.control_sets.proofs.plan_bytes.control_in.Goals as goal

pub overflow_sub-result : goal.overflow_sub-result
overflow_sub-result c = (lanes_of_allowed c.args.advert.now c.args.path c.requires).first

pub returns-clause-code : goal.returns-clause-code
returns-clause-code c =
    let apps = c.apps-apps.ensures in
    let number = number_of_allowed c.args.advert.now c.args.path (subst InOrder apps.apps apps.in_order) c.requires in
    omega (arith, number.1, apps.few, ap length apps.apps)

pub returns-clause-lane : goal.returns-clause-lane
returns-clause-lane c =
    let lanes = lanes_of_allowed c.args.advert.now c.args.path c.requires in
    omega (arith, lanes.some, lanes.last)
