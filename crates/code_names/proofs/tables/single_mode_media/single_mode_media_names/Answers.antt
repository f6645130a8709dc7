use Rattle.std.proofs.Common.{refl}
use Rattle.code_names.specs.SingleModeMedia.{single_mode_media_names}
use Rattle.code_names.proofs.tables.single_mode_media.single_mode_media_names.Goals as goal

pub returns : goal.returns
unfolding single_mode_media_names
returns c = refl
