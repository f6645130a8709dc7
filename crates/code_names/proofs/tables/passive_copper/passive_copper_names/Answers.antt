use Rattle.std.proofs.Common.{refl}
use Rattle.code_names.specs.PassiveCopper.{passive_copper_names}
use Rattle.code_names.proofs.tables.passive_copper.passive_copper_names.Goals as goal

pub returns : goal.returns
unfolding passive_copper_names
returns c = refl
