use Rattle.std.proofs.Common.{◌≡◌, ◌++◌, ◌∷◌, [], map, arith}
use Rattle.std.proofs.lemmas.Grind.{common_steps}
use Rattle.json.specs.Token.{end_object}
use Rattle.json.specs.Tree.{members_tokens}
use Rattle.plan_reports.specs.FaultJson.{code_members, reason_json, sentence_members, values_members}
use Rattle.report_entries.specs.JsonTrees.{all_member_tokens, members_of}
use Rattle.report_entries.proofs.JsonTokens.{of_members}
use Rattle.plan_reports.proofs.json_fault.put_words.Goals as goal

pub returns : goal.returns
unfolding reason_json
returns c =
    let words = map (λ word. word.items) c.args.words.now in
    let members = code_members words ++ (values_members words ++ sentence_members c.args.sentence.now) in
    let closed : all_member_tokens members ++ end_object ∷ [] ≡ members_tokens (members_of members) = of_members members in
    grind (arith, common_steps)
