use Rattle.control_sets.proofs.PlanPathLaws.{told_paths}
use Rattle.control_sets.proofs.ReadBack.{no_wrong_lane}
use Rattle.control_sets.proofs.laws.plans_are_read_back.Goals as goal

pub returns-clause-right : goal.returns-clause-right
returns-clause-right c advert paths in_order few admissible = no_wrong_lane advert paths (record { in_order = in_order; few = few; admissible = admissible })

pub returns-clause-paths : goal.returns-clause-paths
returns-clause-paths c advert paths in_order few admissible = told_paths advert paths (record { in_order = in_order; few = few; admissible = admissible })
