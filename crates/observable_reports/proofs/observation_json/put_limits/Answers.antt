use Rattle.std.proofs.Common.{◌≡◌, ◌++◌, ◌∷◌, [], arith}
use Rattle.std.proofs.lemmas.Grind.{common_steps}
use Rattle.json.specs.Token.{end_object}
use Rattle.json.specs.Tree.{members_tokens}
use Rattle.report_entries.specs.JsonTrees.{all_member_tokens, members_of}
use Rattle.report_entries.proofs.JsonTokens.{of_members}
use Rattle.observable_reports.specs.ObservationJson.{alarm_members, limits_json, warning_members}
use Rattle.observable_reports.proofs.observation_json.put_limits.Goals as goal

pub returns : goal.returns
unfolding limits_json
returns c =
    let members = alarm_members c.args.format c.args.levels ++ warning_members c.args.format c.args.levels in
    let closed : all_member_tokens members ++ end_object ∷ [] ≡ members_tokens (members_of members) = of_members members in
    grind (arith, common_steps)
