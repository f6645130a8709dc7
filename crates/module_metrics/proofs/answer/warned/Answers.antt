use Rattle.module_decoding.specs.declared.report.Report.TheVariants.{Flags}
use Rattle.reports.specs.Reports.{all_lanes_entries, flags_fault}
use Rattle.module_metrics.proofs.answer.warned.Goals as goal

pub returns-clause-entries : goal.returns-clause-entries
returns-clause-entries c = c.entries_or_none.ensures.entries (flags_fault c.args.image.now) (all_lanes_entries Flags c.args.image.now) c.all_lanes_flags.ensures

pub returns-clause-first : goal.returns-clause-first
returns-clause-first c = c.entries_or_none.ensures.first (flags_fault c.args.image.now) (all_lanes_entries Flags c.args.image.now) c.all_lanes_flags.ensures
