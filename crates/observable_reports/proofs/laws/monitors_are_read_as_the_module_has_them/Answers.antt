use Rattle.observable_reports.proofs.WholeObservables.{monitors_same}
use Rattle.observable_reports.proofs.laws.monitors_are_read_as_the_module_has_them.Goals as goal

pub returns : goal.returns
returns c = monitors_same
