use Rattle.std.proofs.Common.{◌≡◌, drop}
use Rattle.report_entries.specs.RowTables.{rows_in}
use Rattle.module_metrics.specs.CommonLabels.{is_row_key}
use Rattle.module_metrics.proofs.labels.is_row_key.Given as goal

-- none so far has it
abbrev pub invariant-loop-line : goal.invariant-loop-line
invariant-loop-line l = is_row_key (rows_in l.lines) l.key ≡ is_row_key (rows_in (drop l.line-index l.lines)) l.key
