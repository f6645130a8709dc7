use Rattle.plan_reports.proofs.JsonKeys.{faults_unique, plans_unique, verdicts_unique}
use Rattle.plan_reports.proofs.laws.no_object_has_a_key_twice.Goals as goal

pub returns-clause-plans : goal.returns-clause-plans
returns-clause-plans c = plans_unique

pub returns-clause-faults : goal.returns-clause-faults
returns-clause-faults c = faults_unique

pub returns-clause-verdicts : goal.returns-clause-verdicts
returns-clause-verdicts c = verdicts_unique
