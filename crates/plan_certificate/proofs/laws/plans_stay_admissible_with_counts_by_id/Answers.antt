use Rattle.plan_certificate.proofs.CountedLanes.{any_weighs, still_admissible, still_weighs}
use Rattle.plan_certificate.proofs.laws.plans_stay_admissible_with_counts_by_id.Goals as goal

pub returns-clause-admissible : goal.returns-clause-admissible
returns-clause-admissible c = still_admissible

pub returns-clause-weight : goal.returns-clause-weight
returns-clause-weight c = still_weighs

pub returns-clause-any_weight : goal.returns-clause-any_weight
returns-clause-any_weight c = any_weighs
