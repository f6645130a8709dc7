use Rattle.std.proofs.Common.{refl}
use Rattle.notices.specs.Numbers.{procedure_faults}
use Rattle.notices.proofs.numbers.procedure_faults.Goals as goal

pub returns : goal.returns
unfolding procedure_faults
returns c = refl
