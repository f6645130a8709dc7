use Rattle.reports.proofs.FetchedReports.{fetched_reports}
use Rattle.reports.proofs.laws.what_is_fetched_has_the_reports_of_the_module.Goals as goal

pub returns : goal.returns
returns c = fetched_reports
