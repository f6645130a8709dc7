use Rattle.std.proofs.Common.{refl}
use Rattle.code_names.specs.BaseTMedia.{base_t_media_names}
use Rattle.code_names.proofs.tables.base_t_media.base_t_media_names.Goals as goal

pub returns : goal.returns
unfolding base_t_media_names
returns c = refl
