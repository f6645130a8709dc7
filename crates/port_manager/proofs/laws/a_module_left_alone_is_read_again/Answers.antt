use Rattle.port_manager.proofs.LeftAloneLaws.{is_read_again}
use Rattle.port_manager.proofs.laws.a_module_left_alone_is_read_again.Goals as goal

pub returns : goal.returns
returns c = is_read_again
