use Rattle.std.proofs.Common.{arith}
use Rattle.report_entries.specs.FlagRows.{flag_row_fits}
use Rattle.report_entries.proofs.RowsFit.{at_fits}
use Rattle.report_entries.proofs.flag_rows.raised_flags.Goals as goal

pub push_row-requires-clause-row : goal.push_row-requires-clause-row
push_row-requires-clause-row c = at_fits flag_row_fits c.args.rows.now c.loop-row.row-index _ (omega (arith, c.loop-row-test.true)) c.requires.rows
