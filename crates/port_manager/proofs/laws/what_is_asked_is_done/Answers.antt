use Rattle.port_manager.proofs.RestLaws as rest
use Rattle.port_manager.proofs.laws.what_is_asked_is_done.Goals as goal

pub returns : goal.returns
returns c = rest.what_is_asked_is_done
