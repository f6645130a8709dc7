use Rattle.std.proofs.Common.{◌≡◌, ◌++◌, ◌∷◌, [], map, arith}
use Rattle.std.proofs.lemmas.Grind.{common_steps}
use Rattle.json.specs.Token.{end_array}
use Rattle.json.specs.Tree.{items_tokens}
use Rattle.report_entries.specs.EntryJson.{count_json}
use Rattle.plan_reports.specs.PlanJson.{numbers_json}
use Rattle.report_entries.specs.JsonTrees.{all_tokens, items_of}
use Rattle.report_entries.proofs.JsonTokens.{of_items}
use Rattle.plan_reports.proofs.json_plan.put_numbers.Goals as goal

pub returns : goal.returns
unfolding numbers_json
returns c =
    let values = map count_json c.args.bytes.now in
    let closed : all_tokens values ++ end_array ∷ [] ≡ items_tokens (items_of values) = of_items values in
    grind (arith, common_steps)
