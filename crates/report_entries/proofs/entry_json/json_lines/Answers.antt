use Rattle.std.proofs.Common.{◌≡◌, ◌++◌, ◌∷◌, [], map, arith}
use Rattle.std.proofs.lemmas.Grind.{common_steps}
use Rattle.json.specs.Token.{end_object}
use Rattle.json.specs.Tree.{members_tokens}
use Rattle.report_entries.specs.Entries.{entry_of}
use Rattle.report_entries.specs.EntryJson.{entries_members, form_members}
use Rattle.report_entries.specs.JsonTrees.{all_member_tokens, members_of}
use Rattle.report_entries.proofs.JsonTokens.{of_members, read_back}
use Rattle.report_entries.proofs.entry_json.json_lines.Goals as goal

pub returns-clause-text : goal.returns-clause-text
returns-clause-text c =
    let members = form_members ++ entries_members (map entry_of c.args.entries.now) in
    let closed : all_member_tokens members ++ end_object ∷ [] ≡ members_tokens (members_of members) = of_members members in
    grind (arith, common_steps)

pub returns-clause-reads_back : goal.returns-clause-reads_back
returns-clause-reads_back c =
    let entries = map entry_of c.args.entries.now in
    let members = form_members ++ entries_members entries in
    let closed : all_member_tokens members ++ end_object ∷ [] ≡ members_tokens (members_of members) = of_members members in
    read_back entries _ (grind (arith, common_steps))
