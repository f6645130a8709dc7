use Rattle.port_manager.proofs.CameUpLaws.{came_up_as_wanted}
use Rattle.port_manager.proofs.laws.a_module_that_came_up_is_as_wanted.Goals as goal

pub returns : goal.returns
returns c story port reaches = came_up_as_wanted story port reaches
