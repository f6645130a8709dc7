use Rattle.std.proofs.Common.{◌≡◌, ◌++◌, ◌∷◌, [], List, map, refl, ap, arith}
use Rattle.std.proofs.lemmas.Grind.{common_steps}
use Rattle.json.specs.Json.{Json}
use Rattle.json.specs.Token.{end_array}
use Rattle.json.specs.Tree.{items_tokens}
use Rattle.report_entries.specs.EntryJson.{names_json, shown_json, string_json}
use Rattle.report_entries.specs.Facts.{Str, texts_of}
use Rattle.report_entries.specs.JsonTrees.{all_tokens, items_of}
use Rattle.report_entries.proofs.JsonTokens.{of_items}
use Rattle.report_entries.proofs.fact_json.put_names.Goals as goal

shown : (names : List Str) → map string_json (texts_of names) ≡ map shown_json names
shown [] = refl
shown (name ∷ names) = ap (λ (js : List Json). shown_json name ∷ js) (shown names)

pub returns : goal.returns
unfolding names_json
returns c =
    let same = shown c.args.names.now in
    let values = map string_json (texts_of c.args.names.now) in
    let closed : all_tokens values ++ end_array ∷ [] ≡ items_tokens (items_of values) = of_items values in
    grind (arith, common_steps)
