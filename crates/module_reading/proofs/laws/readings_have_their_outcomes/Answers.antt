use Rattle.std.proofs.Common.{refl, arith}
use Rattle.module_reading.proofs.FetchTold.{begins_told, reading_outcome}
use Rattle.module_reading.proofs.laws.readings_have_their_outcomes.Goals as goal

pub returns-clause-begun : goal.returns-clause-begun
returns-clause-begun c doubts request = (begins_told doubts request, refl, omega arith)

pub returns-clause-outcomes : goal.returns-clause-outcomes
returns-clause-outcomes c events reading told limit = reading_outcome events reading told.0.1 told.1 told.2 limit
