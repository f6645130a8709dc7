use Rattle.std.proofs.Common.{refl}
use Rattle.code_names.specs.Sff8636RateSelects.{sff8636_rate_select_names}
use Rattle.code_names.proofs.tables.sff8636_rate_selects.sff8636_rate_select_names.Goals as goal

pub returns : goal.returns
unfolding sff8636_rate_select_names
returns c = refl
