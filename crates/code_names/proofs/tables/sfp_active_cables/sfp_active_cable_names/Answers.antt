use Rattle.std.proofs.Common.{refl}
use Rattle.code_names.specs.SfpActiveCables.{sfp_active_cable_names}
use Rattle.code_names.proofs.tables.sfp_active_cables.sfp_active_cable_names.Goals as goal

pub returns : goal.returns
unfolding sfp_active_cable_names
returns c = refl
