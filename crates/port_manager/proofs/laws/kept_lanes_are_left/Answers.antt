use Rattle.port_manager.proofs.KeptBits.{kept_clear}
use Rattle.port_manager.proofs.laws.kept_lanes_are_left.Goals as goal

pub returns : goal.returns
returns c advert wanted page plan aim op bits lane is taken store sets within = kept_clear advert wanted page plan aim op bits lane is taken store sets within
