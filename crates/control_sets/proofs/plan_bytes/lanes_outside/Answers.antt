use Rattle.std.proofs.Common.{◌∙◌, arith}
use Rattle.control_sets.proofs.PlanLaneLaws.{others_are}
use Rattle.control_sets.proofs.plan_bytes.lanes_outside.Goals as goal

pub returns : goal.returns
returns c = c.from.ensures ∙ others_are c.args.advert.now c.args.plan.now c.byte.result (omega arith) (c.byte.ensures.lanes ∙ c.lanes_of.ensures)
