use Rattle.port_manager.proofs.StoreLaws.{at_may}
use Rattle.port_manager.proofs.StoryLaws.{reaches_at}
use Rattle.port_manager.proofs.laws.stores_name_their_weights.Goals as goal

pub returns : goal.returns
returns c story port op now reaches asks = at_may story port op now (reaches_at story port reaches) asks
