use Rattle.std.proofs.Common.{◌&&◌, ap, sym, subst, IsTrue}
use Rattle.std.proofs.lemmas.Bool.{and_parts}
use Rattle.field_tables.specs.FieldRows.{row_of}
use Rattle.field_tables.specs.Readings.{is_of_bytes}
use Rattle.module_details.specs.declared.item.Case.{Case}
use Rattle.module_details.specs.Fits.{case_fits, has_number, has_value}
use Rattle.module_details.proofs.read_rows.applies.Goals as goal

pub number_at-number-requires-clause-bytes : goal.number_at-number-requires-clause-bytes
number_at-number-requires-clause-bytes c =
    let it = c.in-LacksSince in
    let fits = subst (λ (case : Case). IsTrue (case_fits case)) it.is c.requires in
    let since = (and_parts (has_number it.field it.index) (has_number it.since 1) fits).1 in
    (and_parts (is_of_bytes (row_of it.since)) (has_value it.since 1) since).0
