use Rattle.observables.proofs.Times.{each_is_exact}
use Rattle.observables.proofs.laws.each_amount_is_exact.Goals as goal

pub returns : goal.returns
returns c = each_is_exact
