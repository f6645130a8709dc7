use Rattle.std.proofs.Common.{◌≡◌, ◌++◌, ◌∷◌, [], codes, arith}
use Rattle.std.proofs.lemmas.Grind.{common_steps}
use Rattle.json.specs.Token.{end_object}
use Rattle.json.specs.Tree.{members_tokens}
use Rattle.report_entries.specs.EntryJson.{count_members}
use Rattle.plan_reports.specs.PlanJson.{host_run_members, media_run_members, path_json}
use Rattle.report_entries.specs.JsonTrees.{all_member_tokens, members_of}
use Rattle.report_entries.proofs.JsonTokens.{of_members}
use Rattle.plan_reports.proofs.json_plan.put_path.Goals as goal

pub returns : goal.returns
unfolding path_json
returns c =
    let advert = c.args.advert.now in
    let path = c.args.path in
    let members = count_members (codes "app_number") path.app ++ (host_run_members advert path ++ media_run_members advert path) in
    let closed : all_member_tokens members ++ end_object ∷ [] ≡ members_tokens (members_of members) = of_members members in
    grind (arith, common_steps)
