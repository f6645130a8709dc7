use Rattle.observable_reports.proofs.WholeStatistics.{observed_reports}
use Rattle.observable_reports.proofs.laws.statistics_change_no_report.Goals as goal

pub returns : goal.returns
returns c = observed_reports
