use Rattle.std.proofs.Common.{◌≡◌, ◌++◌, ◌∷◌, [], map, arith}
use Rattle.std.proofs.lemmas.Grind.{common_steps}
use Rattle.json.specs.Token.{end_array}
use Rattle.json.specs.Tree.{items_tokens}
use Rattle.plan_reports.specs.ProcedureJson.{step_json, steps_json}
use Rattle.report_entries.specs.JsonTrees.{all_tokens, items_of}
use Rattle.report_entries.proofs.JsonTokens.{of_items}
use Rattle.plan_reports.proofs.json_procedure.put_steps.Goals as goal

pub returns : goal.returns
unfolding steps_json
returns c =
    let values = map step_json c.args.steps.now in
    let closed : all_tokens values ++ end_array ∷ [] ≡ items_tokens (items_of values) = of_items values in
    grind (arith, common_steps)
