use Rattle.std.proofs.Common.{◌≡◌, ◌++◌, ◌∷◌, [], codes, arith}
use Rattle.std.proofs.lemmas.Grind.{common_steps}
use Rattle.json.specs.Token.{end_object}
use Rattle.json.specs.Tree.{members_tokens}
use Rattle.report_entries.specs.EntryJson.{flag_json, string_members, lane_members}
use Rattle.report_entries.specs.FlagNames.{flag_name}
use Rattle.report_entries.specs.JsonTrees.{all_member_tokens, members_of}
use Rattle.report_entries.proofs.JsonTokens.{of_members}
use Rattle.report_entries.proofs.entry_json.put_flag.Goals as goal

pub returns : goal.returns
unfolding flag_json
returns c =
    let members = string_members (codes "name") (flag_name c.args.flag.name) ++ lane_members c.args.flag.lane in
    let closed : all_member_tokens members ++ end_object ∷ [] ≡ members_tokens (members_of members) = of_members members in
    grind (arith, common_steps)
