use Rattle.module_decoding.specs.declared.report.Report.TheVariants.{Monitors}
use Rattle.reports.specs.Reports.{all_lanes_entries, monitors_fault}
use Rattle.module_metrics.proofs.answer.measured.Goals as goal

pub returns-clause-entries : goal.returns-clause-entries
returns-clause-entries c = c.entries_or_none.ensures.entries (monitors_fault c.args.image.now) (all_lanes_entries Monitors c.args.image.now) c.all_lanes_monitors.ensures

pub returns-clause-first : goal.returns-clause-first
returns-clause-first c = c.entries_or_none.ensures.first (monitors_fault c.args.image.now) (all_lanes_entries Monitors c.args.image.now) c.all_lanes_monitors.ensures
