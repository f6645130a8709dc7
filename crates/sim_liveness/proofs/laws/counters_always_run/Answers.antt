use Rattle.sim_liveness.proofs.CountersRun as counters
use Rattle.sim_liveness.proofs.laws.counters_always_run.Goals as goal

pub returns-clause-new : goal.returns-clause-new
returns-clause-new c = λ most memory delays time. counters.new_counters_run most memory delays time

pub returns-clause-always : goal.returns-clause-always
returns-clause-always c = λ most. counters.counters_run most

pub returns-clause-allowed : goal.returns-clause-allowed
returns-clause-allowed c = counters.have_time
