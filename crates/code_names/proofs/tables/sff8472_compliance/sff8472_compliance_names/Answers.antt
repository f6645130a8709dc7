use Rattle.std.proofs.Common.{refl}
use Rattle.code_names.specs.Sff8472Compliance.{sff8472_compliance_names}
use Rattle.code_names.proofs.tables.sff8472_compliance.sff8472_compliance_names.Goals as goal

pub returns : goal.returns
unfolding sff8472_compliance_names
returns c = refl
