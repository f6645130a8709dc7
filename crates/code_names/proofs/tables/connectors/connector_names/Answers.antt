use Rattle.std.proofs.Common.{refl}
use Rattle.code_names.specs.Connectors.{connector_names}
use Rattle.code_names.proofs.tables.connectors.connector_names.Goals as goal

pub returns : goal.returns
unfolding connector_names
returns c = refl
