use Rattle.managed_module.proofs.BoundLaw.{comes_up_within}
use Rattle.managed_module.proofs.laws.waiting_ends_by_the_delays.Goals as goal

pub returns : goal.returns
returns c = comes_up_within
