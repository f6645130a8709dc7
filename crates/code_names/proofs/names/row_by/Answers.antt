use Rattle.std.proofs.Common.{◌∙◌, ap, find, option_map, rules, tests}
use Rattle.std.proofs.lemmas.Iterator.{YieldsList-from_slice}
use Rattle.std.proofs.lemmas.Iterator.Search.{find_from_yields_List}
use Rattle.code_names.specs.declared.row.Row.{Row}
use Rattle.code_names.specs.Rows.{row_has, row_of}
use Rattle.code_names.proofs.Searches.{find_map}
use Rattle.code_names.proofs.names.row_by.Goals as goal

pub returns : goal.returns
returns c =
    let rows = c.rows_of.result.now in
    let found = find_from_yields_List (λ (row : Row). row_has c.args.code (row_of row)) _ _ c.find.result c.find.ensures.ran (YieldsList-from_slice rows cc)
    (λ x b q k. search (rules, tests)) in
    ap (option_map row_of) found
    ∙ (find_map (row_has c.args.code) row_of rows
    ∙ ap (find (row_has c.args.code)) c.rows_of.ensures)
