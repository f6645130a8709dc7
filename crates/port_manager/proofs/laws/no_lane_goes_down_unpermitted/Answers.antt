use Rattle.port_manager.proofs.PermissionLaws.{at_takes}
use Rattle.port_manager.proofs.StoryLaws.{reaches_at}
use Rattle.port_manager.proofs.laws.no_lane_goes_down_unpermitted.Goals as goal

pub returns : goal.returns
returns c story port op now reaches asks = at_takes story port op now (reaches_at story port reaches) asks
