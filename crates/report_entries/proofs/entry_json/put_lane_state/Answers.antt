use Rattle.std.proofs.Common.{◌≡◌, ◌++◌, ◌∷◌, [], arith}
use Rattle.std.proofs.lemmas.Grind.{common_steps}
use Rattle.json.specs.Token.{end_object}
use Rattle.json.specs.Tree.{members_tokens}
use Rattle.report_entries.specs.EntryJson.{lane_state_json, path_state_members, config_status_members}
use Rattle.report_entries.specs.JsonTrees.{all_member_tokens, members_of}
use Rattle.report_entries.proofs.JsonTokens.{of_members}
use Rattle.report_entries.proofs.entry_json.put_lane_state.Goals as goal

pub returns : goal.returns
unfolding lane_state_json
returns c =
    let members = path_state_members c.args.state.path ++ config_status_members c.args.state.status in
    let closed : all_member_tokens members ++ end_object ∷ [] ≡ members_tokens (members_of members) = of_members members in
    grind (arith, common_steps)
