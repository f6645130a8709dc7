use Rattle.std.proofs.Common.{refl}
use Rattle.interface_lanes.specs.MultiModeMedia.{multi_mode_media_lanes}
use Rattle.interface_lanes.proofs.tables.multi_mode_media.multi_mode_media_lanes.Goals as goal

pub returns : goal.returns
unfolding multi_mode_media_lanes
returns c = refl
