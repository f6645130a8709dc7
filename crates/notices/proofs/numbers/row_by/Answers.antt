use Rattle.std.proofs.Common.{◌≡◌, ◌==◌, ◌∙◌, ap, option_map, rules, tests}
use Rattle.std.proofs.lemmas.Iterator.{YieldsList-from_slice}
use Rattle.std.proofs.lemmas.Iterator.Search.{find_from_yields_List}
use Rattle.notices.specs.declared.numbers.Numbered.{Numbered}
use Rattle.notices.specs.Numbers.{Says, numbered_of}
use Rattle.notices.proofs.Searches.{find_map}
use Rattle.notices.proofs.numbers.row_by.Goals as goal

pub returns : goal.returns
returns c =
    let rows = c.args.rows.now in
    let found = find_from_yields_List (λ (row : Numbered). row.number == c.args.number) _ _ c.find.result c.find.ensures.ran (YieldsList-from_slice rows cc)
    (λ x b q k. search (rules, tests)) in
    ap (option_map numbered_of) found ∙ find_map (λ (row : Says). row.number == c.args.number) numbered_of rows
