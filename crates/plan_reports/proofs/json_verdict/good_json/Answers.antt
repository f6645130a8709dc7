use Rattle.std.proofs.Common.{◌≡◌, ◌++◌, ◌∷◌, arith}
use Rattle.std.proofs.lemmas.Grind.{common_steps}
use Rattle.json.specs.Token.{begin_object}
use Rattle.report_entries.specs.EntryJson.{form_members}
use Rattle.report_entries.specs.JsonTrees.{all_member_tokens}
use Rattle.std.specs.Prelude.{true}
use Rattle.plan_reports.specs.PlanJson.{plan_members}
use Rattle.plan_reports.specs.VerdictJson.{first_members, good_members}
use Rattle.plan_reports.proofs.JsonDepths.{document_depth, good_depth}
use Rattle.plan_reports.proofs.json_verdict.good_json.Goals as goal

pub returns : goal.returns
returns c =
    let advert = c.args.problem.now.advert.now in
    let weights = c.args.problem.now.weights.now in
    let kept = c.args.problem.now.kept.now in
    let plan = c.args.plan.now in
    let said = good_members true ++ (first_members c.args.first ++ plan_members advert weights kept plan) in
    let begun : c.put_plan.new.out ≡ begin_object ∷ all_member_tokens (form_members ++ said) = grind (arith, common_steps) in
    c.end.ensures.written (form_members ++ said) begun (document_depth said (good_depth c.args.first advert weights kept plan))
