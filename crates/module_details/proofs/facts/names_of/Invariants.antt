use Rattle.std.proofs.Common.{◌≡◌, ◌≤◌, length}
use Rattle.report_entries.specs.Facts.{texts_of}
use Rattle.module_details.specs.Details.{names_up_to}
use Rattle.module_details.proofs.facts.names_of.Given as goal

-- the names so far
abbrev pub invariant-loop-before : goal.invariant-loop-before
invariant-loop-before l = (texts_of l.names.items ≡ names_up_to l.image l.table l.field l.first l.before) × (length l.names.items ≤ l.before)
