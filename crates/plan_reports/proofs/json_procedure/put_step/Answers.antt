use Rattle.std.proofs.Common.{◌≡◌, ◌++◌, ◌∷◌, [], arith}
use Rattle.std.proofs.lemmas.Grind.{common_steps}
use Rattle.json.specs.Token.{end_object}
use Rattle.json.specs.Tree.{members_tokens}
use Rattle.plan_reports.specs.ProcedureJson.{op_members, reply_members, step_json}
use Rattle.report_entries.specs.JsonTrees.{all_member_tokens, members_of}
use Rattle.report_entries.proofs.JsonTokens.{of_members}
use Rattle.plan_reports.proofs.json_procedure.put_step.Goals as goal

pub returns : goal.returns
unfolding step_json
returns c =
    let step = c.args.step.now in
    let members = op_members step.op ++ reply_members step.reply in
    let closed : all_member_tokens members ++ end_object ∷ [] ≡ members_tokens (members_of members) = of_members members in
    grind (arith, common_steps)
