use Rattle.std.proofs.Common.{refl}
use Rattle.code_names.specs.ExtendedCompliance.{extended_compliance_names}
use Rattle.code_names.proofs.tables.extended_compliance.extended_compliance_names.Goals as goal

pub returns : goal.returns
unfolding extended_compliance_names
returns c = refl
