use Rattle.std.proofs.Common.{◌≡◌, ◌∙◌, ap, find, map, option_map, rules, tests}
use Rattle.std.specs.Str.{bytes_eq}
use Rattle.std.proofs.lemmas.Iterator.{YieldsList-from_slice}
use Rattle.std.proofs.lemmas.Iterator.Search.{find_from_yields_List}
use Rattle.notices.specs.declared.table.Sentence.{Sentence}
use Rattle.notices.specs.Sentences.{Row, row_of}
use Rattle.notices.proofs.Searches.{find_map}
use Rattle.notices.proofs.table.sentence_by_code.Goals as goal

pub returns : goal.returns
returns c =
    let rows = c.sentences.result.now in
    let found = find_from_yields_List (λ (s : Sentence). bytes_eq s.code.now c.args.code.now) _ _ c.find.result c.find.ensures.ran (YieldsList-from_slice rows cc)
    (λ x b q k. search (rules, tests)) in
    ap (option_map row_of) found
    ∙ (find_map (λ (row : Row). bytes_eq row.code c.args.code.now) row_of rows
    ∙ ap (find (λ (row : Row). bytes_eq row.code c.args.code.now)) c.sentences.ensures)
