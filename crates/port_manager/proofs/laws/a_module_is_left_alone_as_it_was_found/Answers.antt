use Rattle.port_manager.proofs.LeftReasonLaws.{left_as_found}
use Rattle.port_manager.proofs.laws.a_module_is_left_alone_as_it_was_found.Goals as goal

pub returns : goal.returns
returns c story port reaches = left_as_found story port reaches
