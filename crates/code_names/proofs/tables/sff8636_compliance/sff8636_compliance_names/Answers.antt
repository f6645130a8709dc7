use Rattle.std.proofs.Common.{refl}
use Rattle.code_names.specs.Sff8636Compliance.{sff8636_compliance_names}
use Rattle.code_names.proofs.tables.sff8636_compliance.sff8636_compliance_names.Goals as goal

pub returns : goal.returns
unfolding sff8636_compliance_names
returns c = refl
