use Rattle.std.proofs.Common.{◌≡◌, ◌++◌, ◌∷◌, arith}
use Rattle.std.proofs.lemmas.Grind.{common_steps}
use Rattle.json.specs.Token.{begin_object}
use Rattle.report_entries.specs.EntryJson.{form_members}
use Rattle.report_entries.specs.JsonTrees.{all_member_tokens}
use Rattle.plan_reports.specs.PlanJson.{plan_members}
use Rattle.plan_reports.proofs.JsonDepths.{document_depth, plan_depth}
use Rattle.plan_reports.proofs.json_plan.plan_json.Goals as goal

pub returns : goal.returns
returns c =
    let advert = c.args.problem.now.advert.now in
    let weights = c.args.problem.now.weights.now in
    let said = plan_members advert weights c.args.problem.now.kept.now c.args.plan.now in
    let begun : c.put_plan.new.out ≡ begin_object ∷ all_member_tokens (form_members ++ said) = grind (arith, common_steps) in
    c.end.ensures.written (form_members ++ said) begun (document_depth said (plan_depth advert weights c.args.problem.now.kept.now c.args.plan.now))
