use Rattle.plan_certificate.proofs.PairedLanes.{admissible_unpaired}
use Rattle.plan_certificate.proofs.laws.paired_plans_are_admissible.Goals as goal

pub returns : goal.returns
returns c = admissible_unpaired
