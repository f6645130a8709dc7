use Rattle.simulated_statistics.proofs.RequestLaws.{done_in_time}
use Rattle.simulated_statistics.proofs.laws.a_request_is_done_in_time.Goals as goal

pub returns-clause-taken : goal.returns-clause-taken
returns-clause-taken c = done_in_time
