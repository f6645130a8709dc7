use Rattle.std.proofs.Common.{refl}
use Rattle.code_names.specs.MediaTypes.{media_type_names}
use Rattle.code_names.proofs.tables.media_types.media_type_names.Goals as goal

pub returns : goal.returns
unfolding media_type_names
returns c = refl
