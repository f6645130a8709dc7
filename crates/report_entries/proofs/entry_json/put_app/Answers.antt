use Rattle.std.proofs.Common.{◌≡◌, ◌++◌, ◌∷◌, [], arith}
use Rattle.std.proofs.lemmas.Grind.{common_steps}
use Rattle.json.specs.Token.{end_object}
use Rattle.json.specs.Tree.{members_tokens}
use Rattle.report_entries.specs.EntryJson.{app_json, kind_members, lanes_members, starts_members, usable_members}
use Rattle.report_entries.specs.JsonTrees.{all_member_tokens, members_of}
use Rattle.report_entries.proofs.JsonTokens.{of_members}
use Rattle.report_entries.proofs.entry_json.put_app.Goals as goal

pub returns : goal.returns
unfolding app_json
returns c =
    let members = kind_members c.args.app.now ++ (lanes_members c.args.app.now ++ (starts_members c.args.app.now ++ usable_members c.args.app.now)) in
    let closed : all_member_tokens members ++ end_object ∷ [] ≡ members_tokens (members_of members) = of_members members in
    grind (arith, common_steps)
