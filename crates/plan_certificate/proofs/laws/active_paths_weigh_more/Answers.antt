use Rattle.plan_certificate.proofs.ActivePaths.{weighs_more}
use Rattle.plan_certificate.proofs.laws.active_paths_weigh_more.Goals as goal

pub returns : goal.returns
returns c = weighs_more
