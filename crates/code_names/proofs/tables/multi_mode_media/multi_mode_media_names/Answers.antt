use Rattle.std.proofs.Common.{refl}
use Rattle.code_names.specs.MultiModeMedia.{multi_mode_media_names}
use Rattle.code_names.proofs.tables.multi_mode_media.multi_mode_media_names.Goals as goal

pub returns : goal.returns
unfolding multi_mode_media_names
returns c = refl
