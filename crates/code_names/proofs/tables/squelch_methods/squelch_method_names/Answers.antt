use Rattle.std.proofs.Common.{refl}
use Rattle.code_names.specs.SquelchMethods.{squelch_method_names}
use Rattle.code_names.proofs.tables.squelch_methods.squelch_method_names.Goals as goal

pub returns : goal.returns
unfolding squelch_method_names
returns c = refl
