use Rattle.std.proofs.lemmas.Bool.{and_parts}
use Rattle.std.specs.List.{list_all}
use Rattle.report_entries.specs.Rows.{instead_fits, source_fits}
use Rattle.report_entries.specs.RowTables.{cases_in, source_in}
use Rattle.report_entries.proofs.read_rows.add_row.Goals as goal

pub content-requires-clause-source : goal.content-requires-clause-source
content-requires-clause-source c =
    let row = c.args.row.now in
    (and_parts (list_all instead_fits (cases_in row.instead.now)) (source_fits (source_in row.source)) c.requires.row).1
