use Rattle.std.proofs.Common.{refl}
use Rattle.code_names.specs.MediaTechnologies.{media_technology_names}
use Rattle.code_names.proofs.tables.media_technologies.media_technology_names.Goals as goal

pub returns : goal.returns
unfolding media_technology_names
returns c = refl
