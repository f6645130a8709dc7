use Rattle.std.proofs.Common.{◌≡◌, ◌++◌, ◌∷◌, [], false, map, arith}
use Rattle.std.proofs.lemmas.Grind.{common_steps}
use Rattle.json.specs.Token.{end_array}
use Rattle.json.specs.Tree.{items_tokens}
use Rattle.plan_reports.specs.FaultJson.{values_from, values_json}
use Rattle.report_entries.specs.JsonTrees.{all_tokens, items_of}
use Rattle.report_entries.proofs.JsonTokens.{of_items}
use Rattle.plan_reports.proofs.json_fault.put_value_list.Goals as goal

pub returns : goal.returns
unfolding values_json
returns c =
    let values = values_from false (map (λ word. word.items) c.args.values.now) in
    let closed : all_tokens values ++ end_array ∷ [] ≡ items_tokens (items_of values) = of_items values in
    grind (arith, common_steps)
