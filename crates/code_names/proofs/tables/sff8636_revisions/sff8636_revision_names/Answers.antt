use Rattle.std.proofs.Common.{refl}
use Rattle.code_names.specs.Sff8636Revisions.{sff8636_revision_names}
use Rattle.code_names.proofs.tables.sff8636_revisions.sff8636_revision_names.Goals as goal

pub returns : goal.returns
unfolding sff8636_revision_names
returns c = refl
