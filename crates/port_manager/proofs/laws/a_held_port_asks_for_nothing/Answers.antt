use Rattle.port_manager.proofs.StoryLaws.{holds_still, reaches_at}
use Rattle.port_manager.proofs.laws.a_held_port_asks_for_nothing.Goals as goal

pub returns : goal.returns
returns c story port op now reaches held asks = holds_still story port op now (reaches_at story port reaches) held asks
