use Rattle.std.proofs.lemmas.Bool.{and_parts}
use Rattle.std.specs.List.{list_all}
use Rattle.module_details.specs.Fits.{case_fits, values_fit}
use Rattle.module_details.specs.RowTables.{item_in}
use Rattle.module_details.proofs.read_rows.add_row.Goals as goal

pub applies_any-requires : goal.applies_any-requires
applies_any-requires c =
    let row = c.args.row.now in
    (and_parts (list_all case_fits row.cases.now) (values_fit (item_in row.item) row.values) c.requires.row).0

pub add_values-requires-clause-values : goal.add_values-requires-clause-values
add_values-requires-clause-values c =
    let row = c.args.row.now in
    (and_parts (list_all case_fits row.cases.now) (values_fit (item_in row.item) row.values) c.requires.row).1
