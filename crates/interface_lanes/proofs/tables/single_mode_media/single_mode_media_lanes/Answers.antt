use Rattle.std.proofs.Common.{refl}
use Rattle.interface_lanes.specs.SingleModeMedia.{single_mode_media_lanes}
use Rattle.interface_lanes.proofs.tables.single_mode_media.single_mode_media_lanes.Goals as goal

pub returns : goal.returns
unfolding single_mode_media_lanes
returns c = refl
