use Rattle.observable_reports.proofs.WholeStatistics.{advertised_read, whole_read}
use Rattle.observable_reports.proofs.laws.statistics_are_read_whole.Goals as goal

pub returns-clause-pages : goal.returns-clause-pages
returns-clause-pages c = advertised_read

pub returns-clause-instances : goal.returns-clause-instances
returns-clause-instances c = whole_read
