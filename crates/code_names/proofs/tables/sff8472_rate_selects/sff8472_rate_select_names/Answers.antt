use Rattle.std.proofs.Common.{refl}
use Rattle.code_names.specs.Sff8472RateSelects.{sff8472_rate_select_names}
use Rattle.code_names.proofs.tables.sff8472_rate_selects.sff8472_rate_select_names.Goals as goal

pub returns : goal.returns
unfolding sff8472_rate_select_names
returns c = refl
