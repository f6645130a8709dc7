use Rattle.std.proofs.Common.{refl}
use Rattle.notices.specs.Numbers.{reasons}
use Rattle.notices.proofs.numbers.reasons.Goals as goal

pub returns : goal.returns
unfolding reasons
returns c = refl
