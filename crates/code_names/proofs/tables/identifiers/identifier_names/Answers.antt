use Rattle.std.proofs.Common.{refl}
use Rattle.code_names.specs.Identifiers.{identifier_names}
use Rattle.code_names.proofs.tables.identifiers.identifier_names.Goals as goal

pub returns : goal.returns
unfolding identifier_names
returns c = refl
