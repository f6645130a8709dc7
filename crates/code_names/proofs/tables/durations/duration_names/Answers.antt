use Rattle.std.proofs.Common.{refl}
use Rattle.code_names.specs.Durations.{duration_names}
use Rattle.code_names.proofs.tables.durations.duration_names.Goals as goal

pub returns : goal.returns
unfolding duration_names
returns c = refl
