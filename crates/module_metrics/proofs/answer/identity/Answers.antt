use Rattle.reports.specs.Reports.{inventory_entries, inventory_fault}
use Rattle.module_metrics.proofs.answer.identity.Goals as goal

pub returns-clause-entries : goal.returns-clause-entries
returns-clause-entries c = c.entries_or_none.ensures.entries (inventory_fault c.args.image.now) (inventory_entries c.args.image.now) c.inventory_entries.ensures

pub returns-clause-first : goal.returns-clause-first
returns-clause-first c = c.entries_or_none.ensures.first (inventory_fault c.args.image.now) (inventory_entries c.args.image.now) c.inventory_entries.ensures
