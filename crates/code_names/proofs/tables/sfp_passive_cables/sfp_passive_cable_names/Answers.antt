use Rattle.std.proofs.Common.{refl}
use Rattle.code_names.specs.SfpPassiveCables.{sfp_passive_cable_names}
use Rattle.code_names.proofs.tables.sfp_passive_cables.sfp_passive_cable_names.Goals as goal

pub returns : goal.returns
unfolding sfp_passive_cable_names
returns c = refl
