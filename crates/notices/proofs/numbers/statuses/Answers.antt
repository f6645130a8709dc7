use Rattle.std.proofs.Common.{refl}
use Rattle.notices.specs.Numbers.{statuses}
use Rattle.notices.proofs.numbers.statuses.Goals as goal

pub returns : goal.returns
unfolding statuses
returns c = refl
