use Rattle.std.proofs.Common.{◌≡◌, ◌++◌, take}
use Rattle.report_entries.specs.Entries.{as_entries}
use Rattle.module_details.specs.Details.{rows_entries}
use Rattle.module_details.specs.RowTables.{rows_in}
use Rattle.module_details.proofs.read_rows.add_rows.Given as goal

-- what the rows so far say
abbrev pub invariant-loop-row : goal.invariant-loop-row
invariant-loop-row l = as_entries l.entries ≡ as_entries l.initial.entries ++ rows_entries l.image l.banks l.flat (rows_in (take l.row-index l.rows))
