use Rattle.port_manager.proofs.PresenceLaws.{pulled_by_silence}
use Rattle.port_manager.proofs.laws.a_silent_module_is_pulled.Goals as goal

pub returns : goal.returns
returns c = pulled_by_silence
