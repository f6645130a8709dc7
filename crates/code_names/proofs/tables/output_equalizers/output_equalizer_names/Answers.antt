use Rattle.std.proofs.Common.{refl}
use Rattle.code_names.specs.OutputEqualizers.{output_equalizer_names}
use Rattle.code_names.proofs.tables.output_equalizers.output_equalizer_names.Goals as goal

pub returns : goal.returns
unfolding output_equalizer_names
returns c = refl
