use Rattle.observable_reports.proofs.WindowStatistics.{statistics_same}
use Rattle.observable_reports.proofs.laws.statistics_are_read_as_the_module_has_them.Goals as goal

pub returns : goal.returns
returns c = statistics_same
