use Rattle.std.proofs.Common.{◌≡◌, ◌++◌, ◌∷◌, [], arith}
use Rattle.std.proofs.lemmas.Grind.{common_steps}
use Rattle.json.specs.Token.{end_object}
use Rattle.json.specs.Tree.{members_tokens}
use Rattle.report_entries.specs.JsonTrees.{all_member_tokens, members_of, object_of}
use Rattle.report_entries.proofs.JsonTokens.{of_members, reads_as}
use Rattle.report_entries.proofs.json_document.lines.Goals as goal

pub returns-clause-text : goal.returns-clause-text
returns-clause-text c = λ members begun.
    let closed : all_member_tokens members ++ end_object ∷ [] ≡ members_tokens (members_of members) = of_members members in
    grind (arith, common_steps)

pub returns-clause-reads_back : goal.returns-clause-reads_back
returns-clause-reads_back c = λ members begun shallow.
    let closed : all_member_tokens members ++ end_object ∷ [] ≡ members_tokens (members_of members) = of_members members in
    reads_as (object_of members) _ shallow (grind (arith, common_steps))
