use Rattle.std.proofs.Common.{subst}
use Rattle.applications.specs.AppWeights.{PathWeights}
use Rattle.firmware_api.specs.Plans.{IsPlanned}
use Rattle.firmware_api.proofs.planning.put_best.Goals as goal

pub returns : goal.returns
returns c = subst (λ (weights : PathWeights). IsPlanned c.args.advert.now weights c.args.kept.now c.put_plan.new.plan) c.by_host.ensures c.put_plan.ensures
