use Rattle.port_manager.proofs.TurnProgress.{comes_up, comes_up_anew}
use Rattle.port_manager.proofs.laws.a_module_comes_up.Goals as goal

pub returns-clause-plugged : goal.returns-clause-plugged
returns-clause-plugged c = comes_up

pub returns-clause-anew : goal.returns-clause-anew
returns-clause-anew c = comes_up_anew
