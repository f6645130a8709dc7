use Rattle.std.proofs.Common.{sym, ◌∙◌, arith}
use Rattle.std.proofs.lemmas.List.Folds.{list_all-map}
use Rattle.report_entries.specs.Rows.{row_fits}
use Rattle.report_entries.specs.RowTables.{row_in}
use Rattle.report_entries.proofs.RowsFit.{at_fits}
use Rattle.report_entries.proofs.read_rows.add_rows.Goals as goal

pub add_row-requires-clause-row : goal.add_row-requires-clause-row
add_row-requires-clause-row c =
    at_fits (λ row. row_fits (row_in row)) c.args.rows.now c.loop-row.row-index _ (omega (arith, c.loop-row-test.true)) (sym (list_all-map row_fits row_in c.args.rows.now) ∙ c.requires.rows)
