use Rattle.command_line.proofs.SameDetails.{details_reported_alike, details_reported_before}
use Rattle.command_line.proofs.SameMetrics.{metrics_reported_alike, metrics_reported_before}
use Rattle.command_line.proofs.SameObservables.{observables_reported_alike}
use Rattle.command_line.proofs.SameOverBus.{each_reported_alike}
use Rattle.command_line.proofs.laws.a_bus_changes_no_report.Goals as goal

pub returns-clause-reports : goal.returns-clause-reports
returns-clause-reports c = each_reported_alike

pub returns-clause-details : goal.returns-clause-details
returns-clause-details c = details_reported_alike

pub returns-clause-other_details : goal.returns-clause-other_details
returns-clause-other_details c = details_reported_before

pub returns-clause-observables : goal.returns-clause-observables
returns-clause-observables c = observables_reported_alike

pub returns-clause-metrics : goal.returns-clause-metrics
returns-clause-metrics c = metrics_reported_alike

pub returns-clause-other_metrics : goal.returns-clause-other_metrics
returns-clause-other_metrics c = metrics_reported_before
