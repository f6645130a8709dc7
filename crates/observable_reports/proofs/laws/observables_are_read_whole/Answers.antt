use Rattle.observable_reports.proofs.WholeObservables.{observables_whole}
use Rattle.observable_reports.proofs.laws.observables_are_read_whole.Goals as goal

pub returns : goal.returns
returns c = observables_whole
