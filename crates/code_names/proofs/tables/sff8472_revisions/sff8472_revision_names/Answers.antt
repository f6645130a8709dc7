use Rattle.std.proofs.Common.{refl}
use Rattle.code_names.specs.Sff8472Revisions.{sff8472_revision_names}
use Rattle.code_names.proofs.tables.sff8472_revisions.sff8472_revision_names.Goals as goal

pub returns : goal.returns
unfolding sff8472_revision_names
returns c = refl
