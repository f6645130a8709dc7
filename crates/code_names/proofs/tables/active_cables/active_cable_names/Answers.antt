use Rattle.std.proofs.Common.{refl}
use Rattle.code_names.specs.ActiveCables.{active_cable_names}
use Rattle.code_names.proofs.tables.active_cables.active_cable_names.Goals as goal

pub returns : goal.returns
unfolding active_cable_names
returns c = refl
