use Rattle.std.proofs.Common.{◌≡◌, take}
use Rattle.report_entries.specs.FlagRows.{rows_flags}
use Rattle.report_entries.proofs.flag_rows.all_flags.Given as goal

-- the flags so far
abbrev pub invariant-loop-row : goal.invariant-loop-row
invariant-loop-row l = l.flags.items ≡ rows_flags l.image l.banks l.flat (take l.row-index l.rows)
