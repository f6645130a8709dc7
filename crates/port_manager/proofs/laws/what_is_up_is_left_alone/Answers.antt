use Rattle.port_manager.proofs.IdleLaws.{leaves_what_is_up}
use Rattle.port_manager.proofs.StoreLaws.{settled_only}
use Rattle.port_manager.proofs.StoryLaws.{reaches_at}
use Rattle.port_manager.proofs.laws.what_is_up_is_left_alone.Goals as goal

pub returns-clause-settled : goal.returns-clause-settled
returns-clause-settled c story port op now reaches settled asks = settled_only story port op now (reaches_at story port reaches) settled asks

pub returns-clause-image : goal.returns-clause-image
returns-clause-image c = leaves_what_is_up
